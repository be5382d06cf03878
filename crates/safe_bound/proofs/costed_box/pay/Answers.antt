use Rattle.std.proofs.Common.{◌≡◌, ℕ, List, ◌<◌, ◌≤◌, ◌^◌, length, get_or, ap, ◌∙◌, arith}
use Rattle.std.specs.Prelude.{ℤ, pos, ◌*ℤ◌, unsigned_abs}
use Rattle.std.specs.Int.{w128, w64}
use Rattle.std.proofs.lemmas.Int.{fits_signed_from_abs, ints}
use mir.Val.{of_z, to_z}
use Rattle.sparse_program.specs.Program.{entry, row_of}
use Rattle.sparse_program.specs.Terms.{coefficient}
use Rattle.safe_bound.proofs.PaidLaws.{paid_for-light, paid_for_sides-small, payment-small, payment_fits, shown_payment}
use Rattle.safe_bound.proofs.PriceLaws.{terms_sum-more}
use Rattle.safe_bound.proofs.costed_box.pay.Goals as goal

pub overflow_mul-pair : goal.overflow_mul-pair
overflow_mul-pair c = payment_fits (get_or c.args.pairs.now c.loop-pair.pair-index (0, pos 0)).1 c.side_of.result (c.requires.lawful.within c.loop-pair.pair-index (0, pos 0) c.loop-pair-test.true) c.side_of.ensures.small

pub overflow_add-sides : goal.overflow_add-sides
overflow_add-sides c =
    let price = (get_or c.args.pairs.now c.loop-pair.pair-index (0, pos 0)).1 in
    let within : unsigned_abs price ≤ 2 ^ 40 = c.requires.lawful.within c.loop-pair.pair-index (0, pos 0) c.loop-pair-test.true in
    let side : c.from-sides.result ≡ price *ℤ c.side_of.result = c.from-sides.ensures ∙ shown_payment price c.side_of.result within c.side_of.ensures.small in
    let few = payment-small price c.side_of.result within c.side_of.ensures.small in
    let so_far = paid_for_sides-small c.args.program.now c.args.pairs.now c.loop-pair.pair-index c.is_program.ensures c.requires.lawful in
    fits_signed_from_abs w128 _ (omega (arith, ints, side, few, so_far, c.loop-pair.invariant.sides))

pub pay_row-requires-clause-light : goal.pay_row-requires-clause-light
pay_row-requires-clause-light c = paid_for-light c.args.program.now c.args.pairs.now c.loop-pair.pair-index c.loop-pair.paid c.is_program.ensures c.requires.lawful c.loop-pair.invariant.paid

pub loop-pair-preserved : goal.loop-pair-preserved
loop-pair-preserved c =
    let k = c.loop-pair.pair-index in
    let pair = get_or c.args.pairs.now k (0, pos 0) in
    let price : ℤ = pair.1 in
    let within : unsigned_abs price ≤ 2 ^ 40 = c.requires.lawful.within k (0, pos 0) c.loop-pair-test.true in
    let same : to_z w64 (of_z w64 price) ≡ price = omega (arith, ints, within) in
    record {
      sides =
          let side : c.from-sides.result ≡ price *ℤ c.side_of.result = c.from-sides.ensures ∙ shown_payment price c.side_of.result within c.side_of.ensures.small in
          let here : c.from-sides.result ≡ price *ℤ (row_of c.args.program.now.rows pair.0).rhs = side ∙ ap (λ (z : ℤ). price *ℤ z) c.side_of.ensures.value in
          let few = payment-small price c.side_of.result within c.side_of.ensures.small in
          let so_far = paid_for_sides-small c.args.program.now c.args.pairs.now k c.is_program.ensures c.requires.lawful in
          let more = terms_sum-more c.args.pairs.now k (0, pos 0) (λ i. (row_of c.args.program.now.rows i).rhs) c.loop-pair-test.true in
          omega (arith, ints, side, here, few, so_far, more, c.loop-pair.invariant.sides);
      paid = λ j below.
          let inside : j < length c.loop-pair.paid = omega (arith, below, c.pay_row.auto.paid) in
          let entry_is : coefficient c.terms_of.result.now j ≡ entry c.args.program.now.rows pair.0 j = ap (λ (terms : List (ℕ × ℤ)). coefficient terms j) c.terms_of.ensures.value in
          let payment : to_z w64 (of_z w64 price) *ℤ coefficient c.terms_of.result.now j ≡ price *ℤ entry c.args.program.now.rows pair.0 j =
          ap (λ (z : ℤ). z *ℤ coefficient c.terms_of.result.now j) same ∙ ap (λ (z : ℤ). price *ℤ z) entry_is in
          let more = terms_sum-more c.args.pairs.now k (0, pos 0) (λ i. entry c.args.program.now.rows i j) c.loop-pair-test.true in
          omega (arith, ints, c.pay_row.ensures j inside, payment, more, c.loop-pair.invariant.paid j inside);
    }

pub returns-clause-small : goal.returns-clause-small
returns-clause-small c =
    let so_far = paid_for_sides-small c.args.program.now c.args.pairs.now c.loop-pair.pair-index c.is_program.ensures c.requires.lawful in
    omega (arith, ints, so_far, c.loop-pair.invariant.sides)

pub returns-clause-light : goal.returns-clause-light
returns-clause-light c = paid_for-light c.args.program.now c.args.pairs.now c.loop-pair.pair-index c.loop-pair.paid c.is_program.ensures c.requires.lawful c.loop-pair.invariant.paid
