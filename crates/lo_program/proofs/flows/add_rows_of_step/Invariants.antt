use Rattle.listed.specs.Below.{join_below}
use Rattle.program_model.specs.FlowRows.{flow_rows_at}
use Rattle.lo_program.specs.inner.Adding.{Adds}
use Rattle.lo_program.proofs.flows.add_rows_of_step.Given as goal

-- the rows of the cells that were passed were added
abbrev pub invariant-loop-i : goal.invariant-loop-i
invariant-loop-i l = Adds l.net l.fn.builder l.builder (join_below l.i (flow_rows_at l.net l.t))
