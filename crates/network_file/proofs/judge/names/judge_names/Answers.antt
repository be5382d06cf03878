use Rattle.std.proofs.Common.{rules, arith}
use Rattle.network_file.specs.inner.SameNames.{name_after, named_at}
use Rattle.network_file.proofs.NameLists.{left, value_passed, value_refused}
use Rattle.network_file.proofs.judge.names.judge_names.Goals as goal

pub returns-in_err-k : goal.returns-in_err-k
returns-in_err-k c =
    value_refused c.from_residual.result (left 0 (name_after (named_at c.args.named)) c.args.values.now 0) c.in_err-k.field-0.0 c.loop-index.k (name_after (named_at c.args.named)) c.args.values.now c.loop-index.index c.index-values-index.result
    (search rules) (omega arith) c.index-values-index.is c.loop-index.invariant c.in_err-k.ensures

pub loop-index-preserved : goal.loop-index-preserved
loop-index-preserved c =
    value_passed (left 0 (name_after (named_at c.args.named)) c.args.values.now 0) c.loop-index.k c.in_ok-k.k (name_after (named_at c.args.named)) c.args.values.now c.loop-index.index c.index-values-index.result
    (omega arith) c.index-values-index.is c.loop-index.invariant c.in_ok-k.ensures
