use Rattle.std.proofs.Common.{rules, arith}
use Rattle.network_file.specs.inner.SameNames.{signal_after}
use Rattle.network_file.proofs.NameLists.{left, value_passed, value_refused}
use Rattle.network_file.proofs.judge.names.judge_signals.Goals as goal

pub returns-in_err-s : goal.returns-in_err-s
returns-in_err-s c =
    value_refused c.from_residual.result (left 0 signal_after c.args.values.now 0) c.in_err-s.field-0.0 c.loop-index.s signal_after c.args.values.now c.loop-index.index c.index-values-index.result
    (search rules) (omega arith) c.index-values-index.is c.loop-index.invariant c.in_err-s.ensures

pub loop-index-preserved : goal.loop-index-preserved
loop-index-preserved c =
    value_passed (left 0 signal_after c.args.values.now 0) c.loop-index.s c.in_ok-s.s signal_after c.args.values.now c.loop-index.index c.index-values-index.result
    (omega arith) c.index-values-index.is c.loop-index.invariant c.in_ok-s.ensures
