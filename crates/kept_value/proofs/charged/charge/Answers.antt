use Rattle.std.proofs.Common.{◌≡◌, ℕ, ◌<◌, ◌≤◌, ◌^◌, length, get_or, ap, ◌∙◌, sym, arith}
use Rattle.std.specs.Int.{w64, w128}
use Rattle.std.specs.Prelude.{FitsSigned, ℤ, pos, ◌-ℤ◌, ◌*ℤ◌, unsigned_abs}
use Rattle.std.proofs.lemmas.Int.{fits_signed_from_abs, ints, to_z-of_z}
use Rattle.std.proofs.lemmas.List.{length-set, take_all}
use mir.Val.{of_z, to_z}
use Rattle.certificate_model.specs.Value.{column_value}
use Rattle.kept_value.specs.Kept.{reduced_at}
use Rattle.kept_value.proofs.ChargedLaws.{charged-later, charged-one_more, least_of-more, least_of-none, less_none}
use Rattle.kept_value.proofs.charged.charge.Goals as goal

pub loop-term-init : goal.loop-term-init
loop-term-init c =
    let price : ℤ = to_z w64 (of_z w64 c.args.price) in
    record {
      value = let none = least_of-none (length c.args.reduced.now) c.args.bounds.now (reduced_at c.args.reduced.now) price in omega (arith, ints, none);
      small = omega arith;
      reduced = λ j below. sym (less_none (reduced_at c.args.reduced.now j) price);
    }

pub charged-after-requires-clause-cost : goal.charged-after-requires-clause-cost
charged-after-requires-clause-cost c =
    let k = c.loop-term.term-index in
    let t : ℕ × ℤ = get_or c.args.terms.now k (0, pos 0) in
    let there : t.0 < length c.args.reduced.now = c.requires.terms.there k (0, pos 0) c.loop-term-test.true in
    let still : reduced_at c.loop-term.reduced t.0 ≡ reduced_at c.args.reduced.now t.0 =
    c.loop-term.invariant.reduced t.0 (omega (arith, there, c.loop-term.auto.reduced)) ∙ charged-later (reduced_at c.args.reduced.now) (to_z w64 (of_z w64 c.args.price)) c.args.terms.now k (0, pos 0) c.requires.terms.rises c.loop-term-test.true in
    omega (arith, ints, still, c.requires.modest.each t.0 there)

pub rise-gain-requires-clause-before : goal.rise-gain-requires-clause-before
rise-gain-requires-clause-before c =
    let k = c.loop-term.term-index in
    let t : ℕ × ℤ = get_or c.args.terms.now k (0, pos 0) in
    let there : t.0 < length c.args.reduced.now = c.requires.terms.there k (0, pos 0) c.loop-term-test.true in
    let still : reduced_at c.loop-term.reduced t.0 ≡ reduced_at c.args.reduced.now t.0 =
    c.loop-term.invariant.reduced t.0 (omega (arith, there, c.loop-term.auto.reduced)) ∙ charged-later (reduced_at c.args.reduced.now) (to_z w64 (of_z w64 c.args.price)) c.args.terms.now k (0, pos 0) c.requires.terms.rises c.loop-term-test.true in
    omega (arith, ints, still, c.requires.modest.each t.0 there)

pub loop-term-preserved : goal.loop-term-preserved
loop-term-preserved c =
    let k = c.loop-term.term-index in
    let t : ℕ × ℤ = get_or c.args.terms.now k (0, pos 0) in
    let cost : ℤ = reduced_at c.args.reduced.now t.0 in
    let price : ℤ = to_z w64 (of_z w64 c.args.price) in
    let there : t.0 < length c.args.reduced.now = c.requires.terms.there k (0, pos 0) c.loop-term-test.true in
    let within : t.0 < length c.loop-term.reduced = omega (arith, there, c.loop-term.auto.reduced) in
    let still : reduced_at c.loop-term.reduced t.0 ≡ cost = c.loop-term.invariant.reduced t.0 within ∙ charged-later (reduced_at c.args.reduced.now) price c.args.terms.now k (0, pos 0) c.requires.terms.rises c.loop-term-test.true in
    let modest : unsigned_abs cost ≤ 2 ^ 79 = c.requires.modest.each t.0 there in
    let small : unsigned_abs t.1 ≤ 2 ^ 20 = c.requires.terms.small k (0, pos 0) c.loop-term-test.true in
    let fits_number : FitsSigned w64 t.1 = fits_signed_from_abs w64 t.1 (omega (arith, small)) in
    let shown : to_z w128 (of_z w128 (reduced_at c.loop-term.reduced t.0)) ≡ cost = omega (arith, ints, still, modest) in
    let fits_now : FitsSigned w128 c.charged-after.result = record { sfits = c.charged-after.type_inv } in
    let now : c.charged-after.result ≡ cost -ℤ price *ℤ t.1 = rw (shown, to_z-of_z w64 t.1 fits_number) at c.charged-after.ensures.value in
    let risen : c.rise-gain.result ≡ column_value c.args.bounds.now (cost -ℤ price *ℤ t.1) t.0 -ℤ column_value c.args.bounds.now cost t.0 =
    (rw (shown, to_z-of_z w128 c.charged-after.result fits_now) at c.rise-gain.ensures.value) ∙ ap (λ (z : ℤ). column_value c.args.bounds.now z t.0 -ℤ column_value c.args.bounds.now cost t.0) now in
    let more = least_of-more (length c.args.reduced.now) c.args.bounds.now (reduced_at c.args.reduced.now) price c.args.terms.now k (0, pos 0) c.requires.terms.rises c.loop-term-test.true there in
    record {
      value = omega (arith, ints, risen, more, c.loop-term.invariant.value, c.loop-term.invariant.small, c.rise-gain.ensures.small, c.loop-term-test.true, c.requires.few);
      small = omega (arith, ints, c.loop-term.invariant.small, c.rise-gain.ensures.small, c.loop-term-test.true, c.requires.few);
      reduced = λ j below.
          charged-one_more (reduced_at c.args.reduced.now) price (to_z w128 (of_z w128 c.charged-after.result)) c.args.terms.now k (0, pos 0) c.loop-term.reduced c.requires.terms.rises c.loop-term-test.true within
          c.loop-term.invariant.reduced (to_z-of_z w128 c.charged-after.result fits_now ∙ now) j (omega (arith, below, length-set c.loop-term.reduced t.0 (to_z w128 (of_z w128 c.charged-after.result))));
    }

pub returns : goal.returns
returns c =
    let price : FitsSigned w64 c.args.price = c.ranges.price in
    let shown = to_z-of_z w64 c.args.price price in
    let whole = take_all c.loop-term.term-index c.args.terms.now c.loop-term-test.false in
    record {
      value = rw (shown, whole) at c.loop-term.invariant.value;
      small = omega (arith, ints, c.loop-term.invariant.small, c.loop-term.auto.term-index-end, c.requires.few);
      reduced = λ j below. rw (shown, whole) at (c.loop-term.invariant.reduced j (omega (arith, below, c.loop-term.auto.reduced)));
    }
