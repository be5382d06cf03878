use Rattle.std.proofs.Common.{◌≡◌, ◌≤◌, ◌^◌, ap, ◌∙◌, arith}
use Rattle.std.specs.Int.{w64, w128}
use Rattle.std.specs.Prelude.{FitsSigned, ℤ, int_lt, pos, ◌-ℤ◌, ◌*ℤ◌, unsigned_abs}
use Rattle.std.proofs.lemmas.Int.{fits_signed_from_abs, ints, to_z-of_z}
use mir.Val.{of_z, to_z}
use Rattle.safe_bound.proofs.CostedLaws.{product-small}
use Rattle.safe_bound.proofs.PaidLaws.{payment_fits, shown_payment}
use Rattle.kept_value.proofs.ChargedLaws.{column_value-slope, goes_to_low-tested}
use Rattle.kept_value.proofs.charged.slope.Goals as goal

-- the coefficient times the bound is small
few : (c : goal.After-best_bound-bound) → unsigned_abs (c.args.coefficient *ℤ c.best_bound-bound.result) ≤ 2 ^ 40
few c = omega (arith, c.requires.coefficient, product-small c.args.coefficient c.best_bound-bound.result c.best_bound-bound.ensures.small)

pub overflow_mul-result : goal.overflow_mul-result
overflow_mul-result c = payment_fits c.args.coefficient c.best_bound-bound.result (omega (arith, c.requires.coefficient)) c.best_bound-bound.ensures.small

pub overflow_sub-result : goal.overflow_sub-result
overflow_sub-result c =
    let is = shown_payment c.args.coefficient c.best_bound-bound.result (omega (arith, c.requires.coefficient)) c.best_bound-bound.ensures.small in
    fits_signed_from_abs w64 _ (omega (arith, ints, is, few c))

-- what the code answers
answer : (c : goal.After-best_bound-bound) →
    to_z w64 (of_z w64 (pos 0 -ℤ to_z w64 (of_z w64 (to_z w64 (of_z w64 c.args.coefficient) *ℤ to_z w64 (of_z w64 c.best_bound-bound.result))))) ≡ pos 0 -ℤ c.args.coefficient *ℤ c.best_bound-bound.result
answer c =
    let is = shown_payment c.args.coefficient c.best_bound-bound.result (omega (arith, c.requires.coefficient)) c.best_bound-bound.ensures.small in
    omega (arith, ints, is, few c)

pub returns : goal.returns
returns c =
    let cost : FitsSigned w128 c.args.cost = c.ranges.cost in
    record {
      value =
          answer c
          ∙ ap (λ (z : ℤ). pos 0 -ℤ c.args.coefficient *ℤ z)
          (rw (to_z-of_z w128 c.args.cost cost, to_z-of_z w64 c.args.coefficient c.ranges.coefficient, goes_to_low-tested (int_lt c.args.coefficient (pos 0)) c.args.rises) at c.best_bound-bound.ensures.value);
      slope = λ more.
          rw (answer c)
          (column_value-slope c.args.bounds.now c.args.j c.args.cost c.args.coefficient c.best_bound-bound.result more c.best_bound-bound.ensures.bound
          (rw (to_z-of_z w128 c.args.cost cost) at c.best_bound-bound.ensures.least));
      small = rw (answer c) (omega (arith, ints, few c));
    }
