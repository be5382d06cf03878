use Rattle.std.proofs.Common.{ℕ, List, length, ◌∙◌, ap, sym}
use Rattle.std.specs.Prelude.{ℤ, ◌++◌}
use Rattle.listed.specs.Below.{join_below}
use Rattle.listed.proofs.JoinLaws.{join_below-suc, join_below-zero}
use Rattle.seed_prices.specs.Seed.{seed_at}
use Rattle.seed_prices.proofs.PriceParts.{none_behind, part_behind}
use Rattle.seed_prices.proofs.prices.push_steps.Goals as goal

pub loop-t-init : goal.loop-t-init
loop-t-init c =
    let parts : ℕ → List ℤ = λ t. join_below (length c.args.net.now.cells) (seed_at c.args.net.now t) in
    none_behind c.args.prices.now.items (join_below 0 parts) (join_below-zero parts)

pub loop-t-preserved : goal.loop-t-preserved
loop-t-preserved c =
    let parts : ℕ → List ℤ = λ t. join_below (length c.args.net.now.cells) (seed_at c.args.net.now t) in
    part_behind c.args.prices.now.items (join_below c.loop-t.t parts) (parts c.loop-t.t) c.loop-t.prices.items c.push_cells.new.prices.items c.loop-t.invariant c.in_ok-push_cells.ensures
    ∙ ap (λ list. c.args.prices.now.items ++ list) (sym (join_below-suc c.loop-t.t parts))
