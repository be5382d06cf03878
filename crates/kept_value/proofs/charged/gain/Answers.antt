use Rattle.std.proofs.Common.{◌≡◌, ℕ, ◌<◌, ◌≤◌, ◌^◌, length, get_or, ap, ◌∙◌, arith}
use Rattle.std.specs.Int.{w64, w128}
use Rattle.std.specs.Prelude.{FitsSigned, ℤ, pos, ◌-ℤ◌, ◌*ℤ◌, unsigned_abs}
use Rattle.std.proofs.lemmas.Int.{fits_signed_from_abs, ints, to_z-of_z}
use Rattle.std.proofs.lemmas.List.{take_all}
use mir.Val.{of_z, to_z}
use Rattle.certificate_model.specs.Value.{column_value}
use Rattle.kept_value.specs.Kept.{reduced_at}
use Rattle.kept_value.proofs.ChargedLaws.{least_of-more, least_of-none}
use Rattle.kept_value.proofs.charged.gain.Goals as goal

pub loop-term-init : goal.loop-term-init
loop-term-init c = record {
  value = let none = least_of-none (length c.args.reduced.now) c.args.bounds.now (reduced_at c.args.reduced.now) (to_z w64 (of_z w64 c.args.price)) in omega (arith, ints, none);
  small = omega arith;
}

pub charged-requires-clause-cost : goal.charged-requires-clause-cost
charged-requires-clause-cost c =
    omega (arith, ints, c.requires.modest.each (get_or c.args.terms.now c.loop-term.term-index (0, pos 0)).0 (c.requires.terms.there c.loop-term.term-index (0, pos 0) c.loop-term-test.true))

pub loop-term-preserved : goal.loop-term-preserved
loop-term-preserved c =
    let k = c.loop-term.term-index in
    let t : ℕ × ℤ = get_or c.args.terms.now k (0, pos 0) in
    let cost : ℤ = reduced_at c.args.reduced.now t.0 in
    let price : ℤ = to_z w64 (of_z w64 c.args.price) in
    let there : t.0 < length c.args.reduced.now = c.requires.terms.there k (0, pos 0) c.loop-term-test.true in
    let modest : unsigned_abs cost ≤ 2 ^ 79 = c.requires.modest.each t.0 there in
    let small : unsigned_abs t.1 ≤ 2 ^ 20 = c.requires.terms.small k (0, pos 0) c.loop-term-test.true in
    let fits_number : FitsSigned w64 t.1 = fits_signed_from_abs w64 t.1 (omega (arith, small)) in
    let fits_cost : FitsSigned w128 cost = fits_signed_from_abs w128 cost (omega (arith, modest)) in
    let fits_now : FitsSigned w128 c.charged.result = record { sfits = c.charged.type_inv } in
    let now : c.charged.result ≡ cost -ℤ price *ℤ t.1 = rw (to_z-of_z w128 cost fits_cost, to_z-of_z w64 t.1 fits_number) at c.charged.ensures.value in
    let risen : c.rise-gain.result ≡ column_value c.args.bounds.now (cost -ℤ price *ℤ t.1) t.0 -ℤ column_value c.args.bounds.now cost t.0 =
    (rw (to_z-of_z w128 cost fits_cost, to_z-of_z w128 c.charged.result fits_now) at c.rise-gain.ensures.value) ∙ ap (λ (z : ℤ). column_value c.args.bounds.now z t.0 -ℤ column_value c.args.bounds.now cost t.0) now in
    let more = least_of-more (length c.args.reduced.now) c.args.bounds.now (reduced_at c.args.reduced.now) price c.args.terms.now k (0, pos 0) c.requires.terms.rises c.loop-term-test.true there in
    record {
      value = omega (arith, ints, risen, more, c.loop-term.invariant.value, c.loop-term.invariant.small, c.rise-gain.ensures.small, c.loop-term-test.true, c.requires.few);
      small = omega (arith, ints, c.loop-term.invariant.small, c.rise-gain.ensures.small, c.loop-term-test.true, c.requires.few);
    }

pub returns-clause-value : goal.returns-clause-value
returns-clause-value c =
    let price : FitsSigned w64 c.args.price = c.ranges.price in
    let whole = rw (to_z-of_z w64 c.args.price price, take_all c.loop-term.term-index c.args.terms.now c.loop-term-test.false) at c.loop-term.invariant.value in
    whole
