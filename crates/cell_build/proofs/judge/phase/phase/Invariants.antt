use Rattle.cell_build.specs.Refusals.{phase_at}
use Rattle.cell_build.proofs.Walks.{RestHasAll}
use Rattle.cell_build.proofs.judge.phase.phase.Given as goal

abbrev pub invariant-loop-s : goal.invariant-loop-s
invariant-loop-s l = RestHasAll l.signals phase_at l.s
