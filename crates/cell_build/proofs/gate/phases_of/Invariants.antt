-- The phases that were reached.
use Rattle.std.proofs.Common.{◌≡◌, map, take}
use Rattle.cell_build.specs.Built.{phase_built}
use Rattle.cell_build.specs.Names.{phase_names}
use Rattle.cell_build.proofs.gate.phases_of.Given as goal

abbrev pub invariant-loop-phase : goal.invariant-loop-phase
invariant-loop-phase l = l.phases ≡ map (phase_built (phase_names l.signal)) (take l.phase-index l.signal.phases)
