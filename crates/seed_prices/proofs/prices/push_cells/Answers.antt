use Rattle.std.proofs.Common.{ℕ, List, ◌∙◌, ap, sym}
use Rattle.std.specs.Prelude.{ℤ, ◌++◌}
use Rattle.listed.specs.Below.{join_below}
use Rattle.listed.proofs.JoinLaws.{join_below-suc, join_below-zero}
use Rattle.seed_prices.specs.Seed.{seed_at}
use Rattle.seed_prices.proofs.PriceParts.{none_behind, part_behind}
use Rattle.seed_prices.proofs.prices.push_cells.Goals as goal

pub loop-i-init : goal.loop-i-init
loop-i-init c =
    let parts : ℕ → List ℤ = seed_at c.args.net.now c.args.t in
    none_behind c.args.prices.now.items (join_below 0 parts) (join_below-zero parts)

pub loop-i-preserved : goal.loop-i-preserved
loop-i-preserved c =
    let parts : ℕ → List ℤ = seed_at c.args.net.now c.args.t in
    part_behind c.args.prices.now.items (join_below c.loop-i.i parts) (parts c.loop-i.i) c.loop-i.prices.items c.push_cell.new.prices.items c.loop-i.invariant c.in_ok-push_cell.ensures
    ∙ ap (λ list. c.args.prices.now.items ++ list) (sym (join_below-suc c.loop-i.i parts))
