use Rattle.std.proofs.Common.{arith}
use Rattle.std.specs.Prelude.{pos, FitsSigned}
use Rattle.std.specs.Int.{w128}
use Rattle.std.proofs.lemmas.Int.{fits_signed_from_abs, ints}
use Rattle.safe_bound.proofs.PaidLaws.{least_left-small, unnamed-one_more}
use Rattle.safe_bound.proofs.costed_box.settle.Goals as goal

pub overflow_add-settled : goal.overflow_add-settled
overflow_add-settled c =
    let now = least_left-small c.args.program.now c.args.with_cost c.args.bounds.now c.settle_row-settled.new.paid c.is_program.ensures c.is_box.ensures c.requires.columns (omega arith) c.settle_row-settled.ensures.light in
    let before = least_left-small c.args.program.now c.args.with_cost c.args.bounds.now c.args.paid.now c.is_program.ensures c.is_box.ensures c.requires.columns c.requires.long c.requires.light in
    let here : FitsSigned w128 c.settle_row-settled.result = record { sfits = c.settle_row-settled.type_inv } in
    fits_signed_from_abs w128 _ (omega (arith, ints, now, before, c.loop-pair.invariant.value, c.settle_row-settled.ensures.value, here))

pub loop-pair-preserved : goal.loop-pair-preserved
loop-pair-preserved c = record {
  value =
      let fits = overflow_add-settled c in
      let here : FitsSigned w128 c.settle_row-settled.result = record { sfits = c.settle_row-settled.type_inv } in
      omega (arith, ints, fits, c.loop-pair.invariant.value, c.settle_row-settled.ensures.value, here);
  light = c.settle_row-settled.ensures.light;
  named = λ j unnamed.
      c.settle_row-settled.ensures.settled j
      (λ apart. c.loop-pair.invariant.named j
      (unnamed-one_more c.args.program.now.rows c.args.pairs.now c.loop-pair.pair-index j (0, pos 0) c.loop-pair-test.true (rw c.terms_of.ensures.value at apart) unnamed));
}

pub returns-clause-small : goal.returns-clause-small
returns-clause-small c =
    let now = least_left-small c.args.program.now c.args.with_cost c.args.bounds.now c.loop-pair.paid c.is_program.ensures c.is_box.ensures c.requires.columns (omega arith) c.loop-pair.invariant.light in
    let before = least_left-small c.args.program.now c.args.with_cost c.args.bounds.now c.args.paid.now c.is_program.ensures c.is_box.ensures c.requires.columns c.requires.long c.requires.light in
    omega (arith, ints, now, before, c.loop-pair.invariant.value)
