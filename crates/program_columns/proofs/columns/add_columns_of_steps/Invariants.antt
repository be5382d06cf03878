use Rattle.std.proofs.Common.{◌≡◌, length}
use Rattle.listed.specs.Below.{join_below, table_of}
use Rattle.program_columns.specs.Columns.{arrived_before, with_columns}
use Rattle.program_model.specs.Columns.{columns_of_cells}
use Rattle.program_columns.proofs.columns.add_columns_of_steps.Given as goal

abbrev pub invariant-loop-t : goal.invariant-loop-t
invariant-loop-t l = record {
  added : l.builder ≡ with_columns l.net l.initial.builder (join_below l.t (columns_of_cells l.net.cells));
  arrived : l.arrived ≡ table_of (length l.net.cells) (arrived_before l.net.cells l.t);
}
