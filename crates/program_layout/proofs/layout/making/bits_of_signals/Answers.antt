use Rattle.std.proofs.Common.{◌≡◌, length, ◌∙◌, ap, sym, arith}
use Rattle.listed.proofs.SumLaws.{sum_below-suc, sum_below-zero}
use Rattle.listed.proofs.TableLaws.{table_of-zero}
use Rattle.ct_base.specs.Access.{signal_of}
use Rattle.ct_base.specs.declared.signal.Signal.{Signal}
use Rattle.program_model.specs.Columns.{letters_of}
use Rattle.program_model.specs.Numbers.{bits_before}
use Rattle.program_layout.proofs.CountLaws.{few_bits_before}
use Rattle.program_layout.proofs.LayoutLaws.{table_more}
use Rattle.program_layout.proofs.layout.making.bits_of_signals.Goals as goal

pub loop-s-init : goal.loop-s-init
loop-s-init c = record {
  before = c.new-before.ensures ∙ sym (table_of-zero (bits_before c.args.net.now.signals));
  all = sym (sum_below-zero (λ r. length (letters_of (signal_of c.args.net.now.signals r))));
}

pub overflow_add-all : goal.overflow_add-all
overflow_add-all c =
    omega (arith, c.bits_of_signal-all.ensures.few, c.loop-s.invariant.all, few_bits_before c.args.net.now c.loop-s.s c.requires (omega arith), c.requires.signals)

pub loop-s-preserved : goal.loop-s-preserved
loop-s-preserved c =
    let bits : c.bits_of_signal-all.result ≡ length (letters_of (signal_of c.args.net.now.signals c.loop-s.s)) =
    c.bits_of_signal-all.ensures.value ∙ ap (λ (signal : Signal). length (letters_of signal)) c.signal.ensures.value in
    record {
      before = c.in_ok-push.ensures.ok ∙ table_more c.loop-s.s (bits_before c.args.net.now.signals) c.loop-s.before c.loop-s.all c.loop-s.invariant.before c.loop-s.invariant.all;
      all = omega (arith, sum_below-suc c.loop-s.s (λ r. length (letters_of (signal_of c.args.net.now.signals r))), c.loop-s.invariant.all, bits);
    }
