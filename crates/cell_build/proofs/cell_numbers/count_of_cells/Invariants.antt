-- The count is that of the links that were reached, and small.
use Rattle.std.proofs.Common.{◌≡◌, ◌*◌, ◌≤◌}
use Rattle.cell_build.specs.Link.{cells_below}
use Rattle.cell_build.proofs.cell_numbers.count_of_cells.Given as goal

abbrev pub invariant-loop-link : goal.invariant-loop-link
invariant-loop-link l = record { counted : l.count ≡ cells_below l.links l.link-index; small : l.count ≤ l.link-index * 257 }
