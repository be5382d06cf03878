use Rattle.std.proofs.Common.{◌≡◌}
use Rattle.listed.specs.Below.{join_below}
use Rattle.program_columns.specs.Columns.{with_columns}
use Rattle.program_model.specs.Columns.{columns_of_cell}
use Rattle.program_columns.proofs.columns.add_columns_of_cells.Given as goal

abbrev pub invariant-loop-i : goal.invariant-loop-i
invariant-loop-i l = l.builder ≡ with_columns l.net l.initial.builder (join_below l.i (columns_of_cell l.net.cells l.t))
