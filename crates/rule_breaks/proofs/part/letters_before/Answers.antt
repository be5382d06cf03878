use Rattle.std.proofs.Common.{length, sym, arith}
use Rattle.listed.proofs.SumLaws.{sum_below-suc, sum_below-zero}
use Rattle.ct_base.specs.Access.{phase_of}
use Rattle.program_model.specs.Columns.{letters_by}
use Rattle.rule_breaks.proofs.part.letters_before.Goals as goal

pub loop-q-init : goal.loop-q-init
loop-q-init c = record { value = sym (sum_below-zero (λ q. length (letters_by q (phase_of c.args.signal.now q).clear))); few = omega arith }

pub loop-q-preserved : goal.loop-q-preserved
loop-q-preserved c = record {
  value = rw (sum_below-suc c.loop-q.q (λ q. length (letters_by q (phase_of c.args.signal.now q).clear)))
      (omega (arith, c.loop-q.invariant.value, c.letters_by.ensures.value));
  few = omega (arith, c.loop-q.invariant.few, c.letters_by.ensures.few);
}
