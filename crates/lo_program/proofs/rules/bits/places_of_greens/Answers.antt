use Rattle.std.proofs.Common.{length, refl, ◌∙◌, sym, arith}
use Rattle.listed.proofs.SumLaws.{sum_below-zero}
use Rattle.listed.proofs.TableLaws.{table_of-zero}
use Rattle.ct_base.specs.Access.{phase_of}
use Rattle.program_model.specs.Columns.{letters_by}
use Rattle.program_model.specs.Numbers.{letters_before}
use Rattle.lo_program.proofs.BitLaws.{letters_before_more}
use Rattle.program_layout.proofs.LayoutLaws.{table_more}
use Rattle.lo_program.proofs.rules.bits.places_of_greens.Goals as goal

pub loop-p-init : goal.loop-p-init
loop-p-init c = record {
  places = c.new-places.ensures ∙ sym (table_of-zero (letters_before c.args.signal.now));
  before = sym (sum_below-zero (λ q. length (letters_by q (phase_of c.args.signal.now q).clear)));
  few = omega arith;
}

pub loop-p-preserved : goal.loop-p-preserved
loop-p-preserved c = record {
  places = c.in_ok-push.ensures.ok ∙ table_more c.loop-p.p (letters_before c.args.signal.now) c.loop-p.places c.loop-p.before c.loop-p.invariant.places c.loop-p.invariant.before;
  before = rw (letters_before_more c.args.signal.now c.loop-p.p, ← c.loop-p.invariant.before, c.letters_brought-before.ensures.number, c.as_slice-phase-items.ensures) refl;
  few = omega (arith, c.loop-p.invariant.few, c.letters_brought-before.ensures.few);
}
