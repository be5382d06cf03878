use Rattle.std.proofs.Common.{◌≡◌}
use Rattle.lo_program.specs.inner.Flows.{feeders_among}
use Rattle.lo_program.proofs.flows.feeders.feeders_of.Given as goal

abbrev pub invariant-loop-j : goal.invariant-loop-j
invariant-loop-j l = l.feeders ≡ feeders_among l.net.cells l.j l.i
