use Rattle.cell_build.specs.Refusals.{phase_in}
use Rattle.cell_build.proofs.Walks.{RestHasAll}
use Rattle.cell_build.proofs.judge.phase.phase_of_each.Given as goal

abbrev pub invariant-loop-p : goal.invariant-loop-p
invariant-loop-p l = RestHasAll l.phases (phase_in l.s) l.p
