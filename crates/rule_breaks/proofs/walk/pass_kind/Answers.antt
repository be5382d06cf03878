use Rattle.std.proofs.Common.{◌≡◌, List, ℕ, length, ap, ◌∙◌, sym, rules, arith}
use Rattle.std.specs.Prelude.{Err}
use Rattle.listed.proofs.JoinLaws.{join_below-zero}
use Rattle.ct_base.specs.Access.{signal_of}
use Rattle.program_model.specs.Columns.{Column}
use Rattle.program_model.specs.Rows.{SumRow}
use Rattle.rule_breaks.specs.Breaks.{value_in}
use Rattle.rule_breaks.specs.inner.Kinds.{rows_of_phase}
use Rattle.rule_breaks.specs.inner.Walk.{walk}
use Rattle.rule_breaks.proofs.WalkLaws.{walk_all, walk_more, walk_stops}
use Rattle.rule_breaks.proofs.walk.pass_kind.Goals as goal

pub loop-p-init : goal.loop-p-init
loop-p-init c =
    ap (walk (value_in c.args.net.now c.args.bits.now) c.args.part.now.steps c.args.number)
    (join_below-zero (rows_of_phase (signal_of c.args.net.now.signals c.args.part.now.signal) c.args.net.now.steps c.args.part.now.signal c.args.t c.args.kind))

pub loop-p-preserved : goal.loop-p-preserved
loop-p-preserved c =
    let rows : ℕ → List (SumRow Column) = rows_of_phase (signal_of c.args.net.now.signals c.args.part.now.signal) c.args.net.now.steps c.args.part.now.signal c.args.t c.args.kind in
    walk_more (value_in c.args.net.now c.args.bits.now) c.args.part.now.steps c.args.number c.loop-p.next c.in_ok-next.next c.loop-p.p rows c.loop-p.invariant (sym c.in_ok-next.ensures)

pub returns-in_err-next : goal.returns-in_err-next
returns-in_err-next c =
    let signal = signal_of c.args.net.now.signals c.args.part.now.signal in
    let rows : ℕ → List (SumRow Column) = rows_of_phase signal c.args.net.now.steps c.args.part.now.signal c.args.t c.args.kind in
    let long : c.len-p-end.result ≡ length signal.phases = rw c.signal.ensures.value at c.len-p-end.ensures in
    let handed_on : c.from_residual.result ≡ Err c.in_err-next.field-0.0 = search rules in
    handed_on
    ∙ sym (walk_stops (value_in c.args.net.now c.args.bits.now) c.args.part.now.steps c.args.number c.loop-p.next (length signal.phases) c.loop-p.p rows c.in_err-next.field-0.0
    (omega (arith, c.loop-p-test.true, long)) c.loop-p.invariant (sym c.in_err-next.ensures))

pub returns : goal.returns
returns c =
    let signal = signal_of c.args.net.now.signals c.args.part.now.signal in
    let rows : ℕ → List (SumRow Column) = rows_of_phase signal c.args.net.now.steps c.args.part.now.signal c.args.t c.args.kind in
    let long : c.len-p-end.result ≡ length signal.phases = rw c.signal.ensures.value at c.len-p-end.ensures in
    walk_all (value_in c.args.net.now c.args.bits.now) c.args.part.now.steps c.args.number c.loop-p.next c.loop-p.p (length signal.phases) rows
    (omega (arith, c.loop-p-test.false, c.loop-p.auto.p-end, long)) c.loop-p.invariant
