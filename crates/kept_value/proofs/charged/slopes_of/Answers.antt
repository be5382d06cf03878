use Rattle.std.proofs.Common.{◌≡◌, Bool, true, false, List, ap, ℕ, ◌+◌, ◌<◌, ◌≤◌, ◌^◌, length, get_or, take, arith}
use Rattle.std.specs.Int.{w64, w128}
use Rattle.std.specs.Prelude.{FitsSigned, ℤ, pos, ◌+ℤ◌, ◌-ℤ◌, ◌*ℤ◌, ◌≤ℤ◌, unsigned_abs}
use Rattle.std.proofs.Math.IntN.{*ℤ-zero}
use Rattle.std.proofs.lemmas.Int.{fits_signed_from_abs, ints, to_z-of_z}
use Rattle.std.proofs.lemmas.List.{take_all}
use mir.Val.{of_z, to_z}
use Rattle.certificate_model.specs.Value.{column_value}
use Rattle.sparse_program.specs.Terms.{terms_sum}
use Rattle.safe_bound.proofs.PriceLaws.{terms_sum-more}
use Rattle.kept_value.specs.Kept.{best_bound, goes_to_low, reduced_at}
use Rattle.kept_value.specs.inner.Charged.{IsSteepest, stands_at}
use Rattle.kept_value.proofs.ChargedLaws.{least_of-none, least_of-slope, stands_at-here}
use Rattle.kept_value.proofs.charged.slopes_of.Goals as goal

-- nothing rises where no term pays
flat : (c : goal.Start) → IsSteepest (length c.args.reduced.now) c.args.bounds.now (reduced_at c.args.reduced.now) (take 0 c.args.terms.now) (to_z w64 (of_z w64 c.args.price)) (pos 0)
flat c other =
    let price : ℤ = to_z w64 (of_z w64 c.args.price) in
    omega (arith, ints, *ℤ-zero (other -ℤ price), least_of-none (length c.args.reduced.now) c.args.bounds.now (reduced_at c.args.reduced.now) price, least_of-none (length c.args.reduced.now) c.args.bounds.now (reduced_at c.args.reduced.now) other)

pub loop-term-init : goal.loop-term-init
loop-term-init c = record { rising = omega (arith, ints); falling = omega (arith, ints); up = flat c; down = flat c; few_up = omega arith; few_down = omega arith }

pub charged-cost-requires-clause-cost : goal.charged-cost-requires-clause-cost
charged-cost-requires-clause-cost c =
    omega (arith, ints, c.requires.modest.each (get_or c.args.terms.now c.loop-term.term-index (0, pos 0)).0 (c.requires.terms.there c.loop-term.term-index (0, pos 0) c.loop-term-test.true))

pub overflow_add-up : goal.overflow_add-up
overflow_add-up c = fits_signed_from_abs w64 _ (omega (arith, ints, c.loop-term.invariant.few_up, c.slope-up.ensures.small, c.loop-term-test.true, c.requires.few))

pub slope-down-requires-clause-there : goal.slope-down-requires-clause-there
slope-down-requires-clause-there c = omega (arith, c.requires.terms.there c.loop-term.term-index (0, pos 0) c.loop-term-test.true, c.requires.columns)

pub slope-down-requires-clause-coefficient : goal.slope-down-requires-clause-coefficient
slope-down-requires-clause-coefficient c = omega (arith, ints, c.requires.terms.small c.loop-term.term-index (0, pos 0) c.loop-term-test.true)

-- what one unit of the column costs once the term pays more for it
cost_is : (c : goal.After-slope-down) →
    c.charged-cost.result ≡ reduced_at c.args.reduced.now (get_or c.args.terms.now c.loop-term.term-index (0, pos 0)).0 -ℤ to_z w64 (of_z w64 c.args.price) *ℤ (get_or c.args.terms.now c.loop-term.term-index (0, pos 0)).1
cost_is c =
    let k = c.loop-term.term-index in
    let t : ℕ × ℤ = get_or c.args.terms.now k (0, pos 0) in
    let cost : ℤ = reduced_at c.args.reduced.now t.0 in
    let there : t.0 < length c.args.reduced.now = c.requires.terms.there k (0, pos 0) c.loop-term-test.true in
    let modest : unsigned_abs cost ≤ 2 ^ 79 = c.requires.modest.each t.0 there in
    let small : unsigned_abs t.1 ≤ 2 ^ 20 = c.requires.terms.small k (0, pos 0) c.loop-term-test.true in
    let fits_number : FitsSigned w64 t.1 = fits_signed_from_abs w64 t.1 (omega (arith, small)) in
    let fits_cost : FitsSigned w128 cost = fits_signed_from_abs w128 cost (omega (arith, modest)) in
    rw (to_z-of_z w128 cost fits_cost, to_z-of_z w64 t.1 fits_number) at c.charged-cost.ensures.value

-- one term more
steeper : (c : goal.After-slope-down) (slope more : ℤ) →
    IsSteepest (length c.args.reduced.now) c.args.bounds.now (reduced_at c.args.reduced.now) (take c.loop-term.term-index c.args.terms.now) (to_z w64 (of_z w64 c.args.price)) slope →
    ((by : ℤ) → column_value c.args.bounds.now (c.charged-cost.result -ℤ by *ℤ (get_or c.args.terms.now c.loop-term.term-index (0, pos 0)).1) (get_or c.args.terms.now c.loop-term.term-index (0, pos 0)).0
    ≤ℤ (column_value c.args.bounds.now c.charged-cost.result (get_or c.args.terms.now c.loop-term.term-index (0, pos 0)).0 +ℤ by *ℤ more)) →
    IsSteepest (length c.args.reduced.now) c.args.bounds.now (reduced_at c.args.reduced.now) (take (c.loop-term.term-index + 1) c.args.terms.now) (to_z w64 (of_z w64 c.args.price)) (slope +ℤ more)
steeper c slope more so_far here other =
    let k = c.loop-term.term-index in
    let t : ℕ × ℤ = get_or c.args.terms.now k (0, pos 0) in
    let price : ℤ = to_z w64 (of_z w64 c.args.price) in
    let there : t.0 < length c.args.reduced.now = c.requires.terms.there k (0, pos 0) c.loop-term-test.true in
    least_of-slope (length c.args.reduced.now) c.args.bounds.now (reduced_at c.args.reduced.now) price other slope more c.args.terms.now k (0, pos 0) c.requires.terms.rises c.loop-term-test.true there (so_far other)
    (rw (cost_is c) at (here (other -ℤ price)))

-- one term more of the sum where columns stand
stands : (c : goal.After-slope-down) (rises : Bool) (slope more : ℤ) →
    slope ≡ pos 0 -ℤ terms_sum (take c.loop-term.term-index c.args.terms.now) (stands_at c.args.bounds.now (reduced_at c.args.reduced.now) c.args.terms.now (to_z w64 (of_z w64 c.args.price)) rises) →
    more ≡ pos 0 -ℤ (get_or c.args.terms.now c.loop-term.term-index (0, pos 0)).1 *ℤ best_bound c.args.bounds.now c.charged-cost.result (goes_to_low (get_or c.args.terms.now c.loop-term.term-index (0, pos 0)).1 rises) (get_or c.args.terms.now c.loop-term.term-index (0, pos 0)).0 →
    slope +ℤ more ≡ pos 0 -ℤ terms_sum (take (c.loop-term.term-index + 1) c.args.terms.now) (stands_at c.args.bounds.now (reduced_at c.args.reduced.now) c.args.terms.now (to_z w64 (of_z w64 c.args.price)) rises)
stands c rises slope more so_far here =
    let k = c.loop-term.term-index in
    let terms : List (ℕ × ℤ) = c.args.terms.now in
    let t : ℕ × ℤ = get_or terms k (0, pos 0) in
    let box = c.args.bounds.now in
    let price : ℤ = to_z w64 (of_z w64 c.args.price) in
    let costs : ℕ → ℤ = reduced_at c.args.reduced.now in
    let is : stands_at box costs terms price rises t.0 ≡ best_bound box c.charged-cost.result (goes_to_low t.1 rises) t.0 =
    stands_at-here box costs terms price c.charged-cost.result rises k (0, pos 0) c.requires.terms.rises c.loop-term-test.true (cost_is c) in
    let product : t.1 *ℤ stands_at box costs terms price rises t.0 ≡ t.1 *ℤ best_bound box c.charged-cost.result (goes_to_low t.1 rises) t.0 = ap (λ (z : ℤ). t.1 *ℤ z) is in
    omega (arith, ints, so_far, here, product, terms_sum-more terms k (0, pos 0) (stands_at box costs terms price rises) c.loop-term-test.true)

pub loop-term-preserved : goal.loop-term-preserved
loop-term-preserved c =
    let k = c.loop-term.term-index in
    let small : unsigned_abs (get_or c.args.terms.now k (0, pos 0)).1 ≤ 2 ^ 20 = c.requires.terms.small k (0, pos 0) c.loop-term-test.true in
    let number = to_z-of_z w64 (get_or c.args.terms.now k (0, pos 0)).1 (fits_signed_from_abs w64 _ (omega (arith, small))) in
    let cost = to_z-of_z w128 c.charged-cost.result (record { sfits = c.charged-cost.type_inv }) in
    let up : to_z w64 (of_z w64 (to_z w64 c.loop-term.up-bits +ℤ to_z w64 (of_z w64 c.slope-up.result))) ≡ to_z w64 c.loop-term.up-bits +ℤ c.slope-up.result =
    omega (arith, ints, c.loop-term.invariant.few_up, c.slope-up.ensures.small, c.loop-term-test.true, c.requires.few) in
    let down : to_z w64 (of_z w64 (to_z w64 c.loop-term.down-bits +ℤ to_z w64 (of_z w64 c.slope-down.result))) ≡ to_z w64 c.loop-term.down-bits +ℤ c.slope-down.result =
    omega (arith, ints, c.loop-term.invariant.few_down, c.slope-down.ensures.small, c.loop-term-test.true, c.requires.few) in
    record {
      rising = rw up (stands c true (to_z w64 c.loop-term.up-bits) c.slope-up.result c.loop-term.invariant.rising (rw (cost, number) at c.slope-up.ensures.value));
      falling = rw down (stands c false (to_z w64 c.loop-term.down-bits) c.slope-down.result c.loop-term.invariant.falling (rw (cost, number) at c.slope-down.ensures.value));
      up = λ other. rw up (steeper c (to_z w64 c.loop-term.up-bits) c.slope-up.result c.loop-term.invariant.up (λ by. rw (cost, number) at (c.slope-up.ensures.slope by)) other);
      down = λ other. rw down (steeper c (to_z w64 c.loop-term.down-bits) c.slope-down.result c.loop-term.invariant.down (λ by. rw (cost, number) at (c.slope-down.ensures.slope by)) other);
      few_up = rw up (omega (arith, ints, c.loop-term.invariant.few_up, c.slope-up.ensures.small));
      few_down = rw down (omega (arith, ints, c.loop-term.invariant.few_down, c.slope-down.ensures.small));
    }

pub returns : goal.returns
returns c =
    let price : FitsSigned w64 c.args.price = c.ranges.price in
    let shown = to_z-of_z w64 c.args.price price in
    let whole = take_all c.loop-term.term-index c.args.terms.now c.loop-term-test.false in
    record {
      rising = rw (shown, whole) at c.loop-term.invariant.rising;
      falling = rw (shown, whole) at c.loop-term.invariant.falling;
      up = λ other. rw (shown, whole) at (c.loop-term.invariant.up other);
      down = λ other. rw (shown, whole) at (c.loop-term.invariant.down other);
      small = (omega (arith, ints, c.loop-term.invariant.few_up, c.loop-term.auto.term-index-end, c.requires.few), omega (arith, ints, c.loop-term.invariant.few_down, c.loop-term.auto.term-index-end, c.requires.few));
    }
