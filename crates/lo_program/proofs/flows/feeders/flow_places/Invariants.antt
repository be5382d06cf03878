use Rattle.std.proofs.Common.{◌≡◌}
use Rattle.listed.specs.Below.{table_of}
use Rattle.lo_program.specs.inner.Flows.{flow_place}
use Rattle.lo_program.proofs.flows.feeders.flow_places.Given as goal

abbrev pub invariant-loop-i : goal.invariant-loop-i
invariant-loop-i l = l.flows ≡ table_of l.i (flow_place l.net.cells)
