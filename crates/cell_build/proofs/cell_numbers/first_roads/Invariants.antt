-- The first road cells of the links that were reached, and how many cells these links become.
use Rattle.std.proofs.Common.{◌≡◌}
use Rattle.listed.specs.Below.{table_of}
use Rattle.cell_build.specs.Link.{cells_below, first_road}
use Rattle.cell_build.proofs.cell_numbers.first_roads.Given as goal

abbrev pub invariant-loop-link : goal.invariant-loop-link
invariant-loop-link l = record {
  each : l.firsts.items ≡ table_of l.link-index (first_road l.links);
  counted : l.count ≡ cells_below l.links l.link-index;
}
