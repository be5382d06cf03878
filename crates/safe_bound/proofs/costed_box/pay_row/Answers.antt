use Rattle.std.proofs.Common.{◌≡◌, ◌<◌, ◌≤◌, ◌+◌, ◌^◌, length, get_or, ap, ◌∙◌, arith}
use Rattle.std.specs.Prelude.{ℤ, pos, ◌+ℤ◌, ◌*ℤ◌, unsigned_abs}
use Rattle.std.specs.Int.{w128, w64}
use Rattle.std.proofs.lemmas.Int.{fits_signed_from_abs, ints, to_z-of_z}
use Rattle.std.proofs.lemmas.List.{length-set}
use mir.Val.{of_z, to_z}
use Rattle.safe_bound.specs.inner.Paid.{paid_at}
use Rattle.safe_bound.proofs.PaidLaws.{paid-not_much, paid-one_more, payment-small, payment_fits, shown_payment}
use Rattle.safe_bound.proofs.costed_box.pay_row.Goals as goal

pub overflow_mul-price : goal.overflow_mul-price
overflow_mul-price c = payment_fits c.args.price (get_or c.args.terms.now c.loop-term.term-index (0, pos 0)).1 c.requires.price (c.requires.terms.small c.loop-term.term-index (0, pos 0) c.loop-term-test.true)

-- what is paid so far for the column of the next term
so_far : (c : goal.After-paid-1) → unsigned_abs (paid_at c.loop-term.paid (get_or c.args.terms.now c.loop-term.term-index (0, pos 0)).0) ≤ 2 ^ 79 + 2 ^ 60
so_far c =
    let term = get_or c.args.terms.now c.loop-term.term-index (0, pos 0) in
    let there : term.0 < length c.args.paid.now = c.requires.terms.there c.loop-term.term-index (0, pos 0) c.loop-term-test.true in
    let is = rw (to_z-of_z w64 c.args.price c.ranges.price) at (c.loop-term.invariant term.0 (omega (arith, there, c.loop-term.auto.paid))) in
    paid-not_much (length c.args.paid.now) c.args.terms.now c.loop-term.term-index c.args.price c.args.paid.now c.loop-term.paid term.0 c.requires.terms c.requires.price c.requires.light there is

-- what the next term pays
payment : (c : goal.After-paid-1) → c.from.result ≡ c.args.price *ℤ (get_or c.args.terms.now c.loop-term.term-index (0, pos 0)).1
payment c =
    c.from.ensures
    ∙ shown_payment c.args.price (get_or c.args.terms.now c.loop-term.term-index (0, pos 0)).1 c.requires.price (c.requires.terms.small c.loop-term.term-index (0, pos 0) c.loop-term-test.true)

pub overflow_add-paid : goal.overflow_add-paid
overflow_add-paid c =
    let number : ℤ = (get_or c.args.terms.now c.loop-term.term-index (0, pos 0)).1 in
    let few : unsigned_abs (c.args.price *ℤ number) ≤ 2 ^ 60 = payment-small c.args.price number c.requires.price (c.requires.terms.small c.loop-term.term-index (0, pos 0) c.loop-term-test.true) in
    fits_signed_from_abs w128 _ (omega (arith, ints, so_far c, payment c, few))

pub loop-term-preserved : goal.loop-term-preserved
loop-term-preserved c = λ j below.
    let k = c.loop-term.term-index in
    let term = get_or c.args.terms.now k (0, pos 0) in
    let there : term.0 < length c.args.paid.now = c.requires.terms.there k (0, pos 0) c.loop-term-test.true in
    let same : to_z w64 (of_z w64 c.args.price) ≡ c.args.price = to_z-of_z w64 c.args.price c.ranges.price in
    let old : to_z w128 (of_z w128 (paid_at c.loop-term.paid term.0)) ≡ paid_at c.loop-term.paid term.0 = omega (arith, ints, so_far c) in
    let more : to_z w128 (of_z w128 c.from.result) ≡ c.args.price *ℤ term.1 = to_z-of_z w128 c.from.result (record { sfits = c.from.type_inv }) ∙ payment c in
    let new : to_z w128 (of_z w128 (to_z w128 (of_z w128 (paid_at c.loop-term.paid term.0)) +ℤ to_z w128 (of_z w128 c.from.result))) ≡ paid_at c.loop-term.paid term.0 +ℤ c.args.price *ℤ term.1 =
    to_z-of_z w128 _ (overflow_add-paid c) ∙ ap (λ (z : ℤ). z +ℤ to_z w128 (of_z w128 c.from.result)) old ∙ ap (λ (z : ℤ). paid_at c.loop-term.paid term.0 +ℤ z) more in
    rw same
    (paid-one_more c.args.terms.now k (0, pos 0) c.args.price _ c.args.paid.now c.loop-term.paid c.loop-term-test.true (omega (arith, there, c.loop-term.auto.paid))
    (λ i within. rw same at (c.loop-term.invariant i within)) new j (omega (arith, below, length-set {A = ℤ})))
