use Rattle.std.proofs.Common.{◌≡◌, List, ℕ, length, ap, ◌∙◌, sym, rules, arith}
use Rattle.std.specs.Prelude.{Err}
use Rattle.listed.specs.Below.{join_below}
use Rattle.listed.proofs.JoinLaws.{join_below-zero}
use Rattle.listed.proofs.SumLaws.{sum_below-suc, sum_below-zero}
use Rattle.ct_base.specs.Access.{signal_of}
use Rattle.program_layout.proofs.CountLaws.{few_bits_before, length-letters}
use Rattle.program_model.specs.Columns.{Column, letters_of}
use Rattle.program_model.specs.Numbers.{letters_before}
use Rattle.program_model.specs.Rows.{SumRow}
use Rattle.program_model.specs.RuleRows.{rule_rows, rule_rows_at}
use Rattle.rule_breaks.specs.Breaks.{value_in}
use Rattle.rule_breaks.specs.inner.Walk.{walk}
use Rattle.rule_breaks.proofs.WalkLaws.{walk_all, walk_more, walk_stops}
use Rattle.rule_breaks.proofs.walk.pass_signals.Goals as goal

pub loop-signal-init : goal.loop-signal-init
loop-signal-init c =
    let rows : ℕ → List (SumRow Column) = λ s. join_below c.args.net.now.steps (rule_rows_at (signal_of c.args.net.now.signals s) c.args.net.now.steps s) in
    record {
      passed = ap (walk (value_in c.args.net.now c.args.bits.now) c.args.steps 0) (join_below-zero rows);
      first = sym (sum_below-zero (λ r. length (letters_of (signal_of c.args.net.now.signals r))));
    }

pub loop-signal-preserved : goal.loop-signal-preserved
loop-signal-preserved c =
    let net = c.args.net.now in
    let signal = signal_of net.signals c.loop-signal.signal in
    let rows : ℕ → List (SumRow Column) = λ s. join_below net.steps (rule_rows_at (signal_of net.signals s) net.steps s) in
    let before : c.letters_before-first.result ≡ letters_before signal c.len.result = rw c.signal-phases.ensures.value at c.letters_before-first.ensures.value in
    let phases : c.len.result ≡ length signal.phases = rw c.signal-phases.ensures.value at c.len.ensures in
    let letters : c.letters_before-first.result ≡ length (letters_of signal) = before ∙ ap (letters_before signal) phases ∙ sym (length-letters signal) in
    record {
      passed = walk_more (value_in net c.args.bits.now) c.args.steps 0 c.loop-signal.number c.in_ok-number.number c.loop-signal.signal rows c.loop-signal.invariant.passed (sym c.in_ok-number.ensures);
      first = omega (arith, c.loop-signal.invariant.first, letters, sum_below-suc c.loop-signal.signal (λ r. length (letters_of (signal_of net.signals r))));
    }

pub returns-in_err-number : goal.returns-in_err-number
unfolding rule_rows
returns-in_err-number c =
    let net = c.args.net.now in
    let rows : ℕ → List (SumRow Column) = λ s. join_below net.steps (rule_rows_at (signal_of net.signals s) net.steps s) in
    let handed_on : c.from_residual.result ≡ Err c.in_err-number.field-0.0 = search rules in
    handed_on
    ∙ sym (walk_stops (value_in net c.args.bits.now) c.args.steps 0 c.loop-signal.number (length net.signals) c.loop-signal.signal rows c.in_err-number.field-0.0
    (omega (arith, c.loop-signal-test.true, c.len-signal-end.ensures)) c.loop-signal.invariant.passed (sym c.in_err-number.ensures))

pub overflow_add-first : goal.overflow_add-first
overflow_add-first c =
    omega (
      arith,
      c.loop-signal.invariant.first,
      few_bits_before c.args.net.now c.loop-signal.signal c.requires.bits.valid (omega (arith, c.loop-signal-test.true, c.len-signal-end.ensures)),
      c.requires.bits.valid.signals,
      c.loop-signal-test.true,
      c.len-signal-end.ensures,
      c.letters_before-first.ensures.few,
      c.len.ensures,
      c.signal-phases.ensures.valid.phases.1,
    )

pub returns : goal.returns
unfolding rule_rows
returns c =
    let net = c.args.net.now in
    let rows : ℕ → List (SumRow Column) = λ s. join_below net.steps (rule_rows_at (signal_of net.signals s) net.steps s) in
    walk_all (value_in net c.args.bits.now) c.args.steps 0 c.loop-signal.number c.loop-signal.signal (length net.signals) rows
    (omega (arith, c.loop-signal-test.false, c.loop-signal.auto.signal-end, c.len-signal-end.ensures)) c.loop-signal.invariant.passed
