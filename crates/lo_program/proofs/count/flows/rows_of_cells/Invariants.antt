use Rattle.std.proofs.Common.{◌≡◌, ◌≤◌, ◌*◌}
use Rattle.listed.specs.Below.{sum_below}
use Rattle.lo_program.specs.inner.Counts.{moving_rows}
use Rattle.lo_program.proofs.count.flows.rows_of_cells.Given as goal

-- the rows of the cells that were passed
abbrev pub invariant-loop-i : goal.invariant-loop-i
invariant-loop-i l = record {
  value : l.rows ≡ sum_below l.i (moving_rows l.net.cells);
  few : l.rows ≤ 19 * l.i;
}
