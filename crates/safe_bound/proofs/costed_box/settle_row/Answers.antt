use Rattle.std.proofs.Common.{◌≢◌, ℕ, ◌<◌, length, get_or, arith}
use Rattle.std.specs.Prelude.{ℤ, pos, FitsSigned}
use Rattle.std.specs.Int.{w128}
use Rattle.std.proofs.lemmas.Int.{fits_signed_from_abs, ints}
use Rattle.std.proofs.lemmas.List.{drop_all}
use Rattle.std.proofs.lemmas.List.Elements.{All-nil}
use Rattle.safe_bound.specs.inner.Paid.{IsLight}
use Rattle.safe_bound.proofs.PaidLaws.{IsLight-cleared, least_left-small, settled-one_more}
use Rattle.safe_bound.proofs.costed_box.settle_row.Goals as goal

pub overflow_add-settled : goal.overflow_add-settled
overflow_add-settled c =
    let light : IsLight c.settle_column-settled.new.paid = rw c.settle_column-settled.ensures.paid (IsLight-cleared c.loop-term.paid (get_or c.args.terms.now c.loop-term.term-index (0, pos 0)).0 c.loop-term.invariant.light) in
    let now = least_left-small c.args.program.now c.args.with_cost c.args.bounds.now c.settle_column-settled.new.paid c.is_program.ensures c.is_box.ensures c.requires.columns (omega arith) light in
    let before = least_left-small c.args.program.now c.args.with_cost c.args.bounds.now c.args.paid.now c.is_program.ensures c.is_box.ensures c.requires.columns c.requires.long c.requires.light in
    let here : FitsSigned w128 c.settle_column-settled.result = record { sfits = c.settle_column-settled.type_inv } in
    fits_signed_from_abs w128 _ (omega (arith, ints, now, before, c.loop-term.invariant.value, c.settle_column-settled.ensures.value, here))

pub loop-term-preserved : goal.loop-term-preserved
loop-term-preserved c = record {
  value =
      let fits = overflow_add-settled c in
      let here : FitsSigned w128 c.settle_column-settled.result = record { sfits = c.settle_column-settled.type_inv } in
      omega (arith, ints, fits, c.loop-term.invariant.value, c.settle_column-settled.ensures.value, here);
  light = rw c.settle_column-settled.ensures.paid (IsLight-cleared c.loop-term.paid (get_or c.args.terms.now c.loop-term.term-index (0, pos 0)).0 c.loop-term.invariant.light);
  settled = λ j none apart.
      let there : (get_or c.args.terms.now c.loop-term.term-index (0, pos 0)).0 < length c.args.program.now.columns = c.requires.there c.loop-term.term-index (0, pos 0) c.loop-term-test.true in
      rw c.settle_column-settled.ensures.paid
      (settled-one_more c.args.terms.now c.loop-term.term-index (0, pos 0) c.loop-term.paid j c.loop-term-test.true (omega (arith, there, c.requires.long, c.loop-term.auto.paid)) (c.loop-term.invariant.settled j none) apart);
}

pub returns-clause-settled : goal.returns-clause-settled
returns-clause-settled c j none =
    c.loop-term.invariant.settled j none (rw (drop_all c.loop-term.term-index c.args.terms.now c.loop-term-test.false) (All-nil (λ (term : ℕ × ℤ). term.0 ≢ j)))
