use Rattle.std.proofs.Common.{◌≡◌, ap, ◌∙◌, sym, arith}
use Rattle.std.specs.Int.{w64}
use Rattle.std.specs.Prelude.{ℤ, pos, ◌*ℤ◌, ◌≤ℤ◌}
use Rattle.std.proofs.lemmas.Int.{ints}
use mir.Val.{of_z, to_z}
use Rattle.sparse_program.specs.Box.{high_of, low_of}
use Rattle.safe_bound.proofs.CostedLaws.{least_at_low}
use Rattle.kept_value.proofs.ChargedLaws.{least-high}
use Rattle.kept_value.proofs.charged.best_bound.Goals as goal

pub returns-then-cost-gt0-clause-least : goal.returns-then-cost-gt0-clause-least
returns-then-cost-gt0-clause-least c =
    let low : to_z w64 (of_z w64 c.low.result) ≡ low_of c.args.bounds.now c.args.j = omega (arith, ints) in
    let above : pos 0 ≤ℤ c.args.cost = grind (arith, ints) in
    sym (ap (λ (z : ℤ). c.args.cost *ℤ z) low ∙ least_at_low c.args.cost (low_of c.args.bounds.now c.args.j) (high_of c.args.bounds.now c.args.j) above (omega (arith, ints)))

pub returns-else-cost-eq0-clause-least : goal.returns-else-cost-eq0-clause-least
returns-else-cost-eq0-clause-least c =
    let high : to_z w64 (of_z w64 c.high.result) ≡ high_of c.args.bounds.now c.args.j = omega (arith, ints) in
    let below : c.args.cost ≤ℤ pos 0 = grind (arith, ints) in
    sym (ap (λ (z : ℤ). c.args.cost *ℤ z) high ∙ least-high c.args.cost (low_of c.args.bounds.now c.args.j) (high_of c.args.bounds.now c.args.j) below (omega (arith, ints)))
