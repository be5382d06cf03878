-- The road cells that were reached stand behind the cells before the link.
use Rattle.std.proofs.Common.{◌≡◌, ◌++◌, length}
use Rattle.listed.specs.Below.{table_of}
use Rattle.cell_build.specs.Link.{road_of}
use Rattle.cell_build.proofs.link.add_road.Given as goal

abbrev pub invariant-loop-k : goal.invariant-loop-k
invariant-loop-k l = record {
  built : l.cells.items ≡ l.initial.cells.items ++ table_of l.k (road_of (length l.initial.cells.items) l.initial.last l.initial.gate l.link);
  last : l.last ≡ l.initial.last;
}
