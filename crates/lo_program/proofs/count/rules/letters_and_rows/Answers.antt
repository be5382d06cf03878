use Rattle.std.proofs.Common.{◌≡◌, length, refl, ap, ◌∙◌, sym, arith}
use Rattle.listed.proofs.SumLaws.{sum_below-suc, sum_below-zero}
use Rattle.ct_base.specs.Access.{phase_of}
use Rattle.program_model.specs.Columns.{letters_by}
use Rattle.program_model.specs.Numbers.{letters_before}
use Rattle.lo_program.specs.inner.Counts.{phase_rows}
use Rattle.lo_program.proofs.BitLaws.{letters_before_more}
use Rattle.program_layout.proofs.CountLaws.{length-letters}
use Rattle.lo_program.proofs.count.rules.letters_and_rows.Goals as goal

pub loop-p-init : goal.loop-p-init
loop-p-init c = record {
  letters = sym (sum_below-zero (λ q. length (letters_by q (phase_of c.args.signal.now q).clear)));
  few_letters = omega arith;
  rows = sym (sum_below-zero (λ p. phase_rows (phase_of c.args.signal.now p) c.args.steps c.args.t));
  few_rows = omega arith;
}

pub loop-p-preserved : goal.loop-p-preserved
loop-p-preserved c = record {
  letters = rw (letters_before_more c.args.signal.now c.loop-p.p, ← c.loop-p.invariant.letters, c.from-letters.ensures, c.letters_brought.ensures.number, c.as_slice-phase-items.ensures) refl;
  few_letters = omega (arith, c.loop-p.invariant.few_letters, c.from-letters.ensures, c.letters_brought.ensures.few);
  rows = rw (sum_below-suc c.loop-p.p (λ p. phase_rows (phase_of c.args.signal.now p) c.args.steps c.args.t), ← c.loop-p.invariant.rows, c.rows_of_phase-rows.ensures.value, c.as_slice-phase-items.ensures) refl;
  few_rows = omega (arith, c.loop-p.invariant.few_rows, c.rows_of_phase-rows.ensures.few);
}

pub returns-clause-letters : goal.returns-clause-letters
returns-clause-letters c =
    let long : length c.as_slice-phase-items.result.now ≡ length c.args.signal.now.phases = ap length c.as_slice-phase-items.ensures in
    let all : c.loop-p.p ≡ length c.args.signal.now.phases = omega (arith, long, c.loop-p-test.false, c.loop-p.auto.p-end) in
    c.loop-p.invariant.letters ∙ ap (letters_before c.args.signal.now) all ∙ sym (length-letters c.args.signal.now)
