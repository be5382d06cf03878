use Rattle.std.proofs.Common.{◌≡◌, length}
use Rattle.listed.specs.Below.{join_below, table_of}
use Rattle.lo_program.specs.inner.Adding.{Adds}
use Rattle.program_columns.specs.Columns.{arrived_before}
use Rattle.lo_program.specs.inner.Floors.{rows_of_step}
use Rattle.lo_program.proofs.flows.add_rows_of_steps.Given as goal

-- the rows of the steps that were passed were added, and what arrived in them was counted
abbrev pub invariant-loop-t : goal.invariant-loop-t
invariant-loop-t l = record {
  added : Adds l.net l.fn.builder l.builder (join_below l.t (rows_of_step l.net));
  arrived : l.arrived ≡ table_of (length l.net.cells) (arrived_before l.net.cells l.t);
}
