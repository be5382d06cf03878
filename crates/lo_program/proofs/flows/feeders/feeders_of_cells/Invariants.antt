use Rattle.std.proofs.Common.{◌≡◌}
use Rattle.listed.specs.Below.{table_of}
use Rattle.lo_program.specs.inner.Flows.{feeders_of}
use Rattle.lo_program.proofs.flows.feeders.feeders_of_cells.Given as goal

abbrev pub invariant-loop-i : goal.invariant-loop-i
invariant-loop-i l = l.feeders ≡ table_of l.i (feeders_of l.net.cells)
