use Rattle.std.proofs.Common.{◌≡◌, List, ℕ, ap, ◌∙◌, sym, rules, arith}
use Rattle.std.specs.Prelude.{Err}
use Rattle.listed.proofs.JoinLaws.{join_below-zero}
use Rattle.ct_base.specs.Access.{signal_of}
use Rattle.program_model.specs.Columns.{Column}
use Rattle.program_model.specs.Rows.{SumRow}
use Rattle.rule_breaks.specs.Breaks.{value_in}
use Rattle.rule_breaks.specs.inner.Kinds.{rows_at}
use Rattle.rule_breaks.specs.inner.Walk.{walk}
use Rattle.rule_breaks.proofs.WalkLaws.{walk_all, walk_more, walk_stops}
use Rattle.rule_breaks.proofs.walk.pass_kinds.Goals as goal

pub loop-kind-init : goal.loop-kind-init
loop-kind-init c =
    ap (walk (value_in c.args.net.now c.args.bits.now) c.args.part.now.steps c.args.number)
    (join_below-zero (rows_at (signal_of c.args.net.now.signals c.args.part.now.signal) c.args.net.now.steps c.args.part.now.signal c.args.t))

pub loop-kind-preserved : goal.loop-kind-preserved
loop-kind-preserved c =
    let rows : ℕ → List (SumRow Column) = rows_at (signal_of c.args.net.now.signals c.args.part.now.signal) c.args.net.now.steps c.args.part.now.signal c.args.t in
    walk_more (value_in c.args.net.now c.args.bits.now) c.args.part.now.steps c.args.number c.loop-kind.next c.in_ok-next.next c.loop-kind.kind-index rows c.loop-kind.invariant (sym c.in_ok-next.ensures)

pub returns-in_err-next : goal.returns-in_err-next
returns-in_err-next c =
    let rows : ℕ → List (SumRow Column) = rows_at (signal_of c.args.net.now.signals c.args.part.now.signal) c.args.net.now.steps c.args.part.now.signal c.args.t in
    let handed_on : c.from_residual.result ≡ Err c.in_err-next.field-0.0 = search rules in
    handed_on
    ∙ sym (walk_stops (value_in c.args.net.now c.args.bits.now) c.args.part.now.steps c.args.number c.loop-kind.next 5 c.loop-kind.kind-index rows c.in_err-next.field-0.0
    (omega (arith, c.loop-kind-test.true)) c.loop-kind.invariant (sym c.in_err-next.ensures))

pub returns : goal.returns
returns c =
    let rows : ℕ → List (SumRow Column) = rows_at (signal_of c.args.net.now.signals c.args.part.now.signal) c.args.net.now.steps c.args.part.now.signal c.args.t in
    walk_all (value_in c.args.net.now c.args.bits.now) c.args.part.now.steps c.args.number c.loop-kind.next c.loop-kind.kind-index 5 rows
    (omega (arith, c.loop-kind-test.false)) c.loop-kind.invariant
