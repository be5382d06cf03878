use Rattle.std.proofs.Common.{◌≡◌, ℕ, List, filter, sum_by, length, ap, ◌∙◌, sym, arith}
use Rattle.listed.proofs.JoinLaws.{join_below-zero}
use Rattle.ct_base.specs.Access.{phase_of, signal_of}
use Rattle.ct_base.specs.declared.plan.Letter.{Letter}
use Rattle.program_model.specs.Columns.{Bit, letters_by}
use Rattle.rule_breaks.specs.inner.Kinds.{may_come}
use Rattle.rule_breaks.specs.inner.Parts.{on}
use Rattle.rule_breaks.proofs.BitCounts.{letters_all, letters_more}
use Rattle.rule_breaks.proofs.letters.letters_on.Goals as goal

pub loop-p-init : goal.loop-p-init
loop-p-init c =
    let signal = signal_of c.args.net.now.signals c.args.part.now.signal in
    let on_of : Letter → ℕ = λ letter. on c.args.net.now c.args.bits.now (Bit c.args.t c.args.part.now.signal letter) in
    record {
      value = ap (λ (letters : List Letter). sum_by on_of (filter (may_come signal c.args.before) letters)) (sym (join_below-zero (λ p. letters_by p (phase_of signal p).clear)));
      few = omega arith;
    }

pub loop-p-preserved : goal.loop-p-preserved
loop-p-preserved c =
    let signal = signal_of c.args.net.now.signals c.args.part.now.signal in
    let on_of : Letter → ℕ = λ letter. on c.args.net.now c.args.bits.now (Bit c.args.t c.args.part.now.signal letter) in
    record {
      value = omega (arith, c.loop-p.invariant.value, c.letters_on_of_phase-letters.ensures.value, letters_more on_of (may_come signal c.args.before) c.loop-p.p (λ p. letters_by p (phase_of signal p).clear));
      few = omega (arith, c.loop-p.invariant.few, c.letters_on_of_phase-letters.ensures.few);
    }

pub returns-clause-value : goal.returns-clause-value
returns-clause-value c =
    let signal = signal_of c.args.net.now.signals c.args.part.now.signal in
    let on_of : Letter → ℕ = λ letter. on c.args.net.now c.args.bits.now (Bit c.args.t c.args.part.now.signal letter) in
    let long : c.len-p-end.result ≡ length signal.phases = rw c.signal.ensures.value at c.len-p-end.ensures in
    c.loop-p.invariant.value ∙ letters_all on_of (may_come signal c.args.before) signal c.loop-p.p (omega (arith, long, c.loop-p-test.false, c.loop-p.auto.p-end))
