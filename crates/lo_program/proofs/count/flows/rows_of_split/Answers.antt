use Rattle.std.proofs.Common.{[], arith}
use Rattle.lo_program.proofs.FlowCounts.{half_of_split}
use Rattle.lo_program.proofs.count.flows.rows_of_split.Goals as goal

pub returns-clause-value : goal.returns-clause-value
returns-clause-value c = omega (arith, half_of_split [] 0 0 c.args.out.now, c.columns_of_split.ensures.value)
