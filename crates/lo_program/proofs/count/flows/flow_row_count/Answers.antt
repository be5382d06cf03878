use Rattle.std.proofs.Common.{sym}
use Rattle.lo_program.proofs.FlowCounts.{length_flows}
use Rattle.lo_program.proofs.count.flows.flow_row_count.Goals as goal

pub returns-clause-value : goal.returns-clause-value
returns-clause-value c =
    rw (c.from-steps.ensures, c.rows_of_cells.ensures.value, c.len-cells.ensures) (sym (length_flows c.args.net.now c.requires.steps.0))
