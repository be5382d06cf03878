use Rattle.std.proofs.Common.{◌≡◌}
use Rattle.listed.specs.Below.{table_of}
use Rattle.program_model.specs.Numbers.{cells_before}
use Rattle.program_layout.proofs.layout.making.columns_of_cells.Given as goal

abbrev pub invariant-loop-i : goal.invariant-loop-i
invariant-loop-i l = record {
  before : l.before ≡ table_of l.i (cells_before l.net.cells);
  all : l.all ≡ cells_before l.net.cells l.i;
}
