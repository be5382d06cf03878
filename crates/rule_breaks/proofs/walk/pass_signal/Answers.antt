use Rattle.std.proofs.Common.{◌≡◌, List, ℕ, ap, ◌∙◌, sym, rules}
use Rattle.std.specs.Prelude.{Err}
use Rattle.listed.proofs.JoinLaws.{join_below-zero}
use Rattle.ct_base.specs.Access.{signal_of}
use Rattle.program_model.specs.Columns.{Column}
use Rattle.program_model.specs.Rows.{SumRow}
use Rattle.program_model.specs.RuleRows.{rule_rows_at}
use Rattle.rule_breaks.specs.Breaks.{value_in}
use Rattle.rule_breaks.specs.inner.Walk.{walk}
use Rattle.rule_breaks.proofs.WalkLaws.{walk_more, walk_stops}
use Rattle.rule_breaks.proofs.walk.pass_signal.Goals as goal

pub loop-t-init : goal.loop-t-init
loop-t-init c =
    ap (walk (value_in c.args.net.now c.args.bits.now) c.args.part.now.steps c.args.number)
    (join_below-zero (rule_rows_at (signal_of c.args.net.now.signals c.args.part.now.signal) c.args.net.now.steps c.args.part.now.signal))

pub loop-t-preserved : goal.loop-t-preserved
loop-t-preserved c =
    let rows : ℕ → List (SumRow Column) = rule_rows_at (signal_of c.args.net.now.signals c.args.part.now.signal) c.args.net.now.steps c.args.part.now.signal in
    walk_more (value_in c.args.net.now c.args.bits.now) c.args.part.now.steps c.args.number c.loop-t.next c.in_ok-next.next c.loop-t.t rows c.loop-t.invariant (sym c.in_ok-next.ensures)

pub returns-in_err-next : goal.returns-in_err-next
returns-in_err-next c =
    let rows : ℕ → List (SumRow Column) = rule_rows_at (signal_of c.args.net.now.signals c.args.part.now.signal) c.args.net.now.steps c.args.part.now.signal in
    let handed_on : c.from_residual.result ≡ Err c.in_err-next.field-0.0 = search rules in
    handed_on
    ∙ sym (walk_stops (value_in c.args.net.now c.args.bits.now) c.args.part.now.steps c.args.number c.loop-t.next c.args.net.now.steps c.loop-t.t rows c.in_err-next.field-0.0
    c.loop-t-test.true c.loop-t.invariant (sym c.in_err-next.ensures))
