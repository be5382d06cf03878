use Rattle.cell_build.specs.Refusals.{unknown_start_at}
use Rattle.cell_build.proofs.Walks.{RestHasAll}
use Rattle.cell_build.proofs.judge.unknown_phase.unknown_starts.Given as goal

abbrev pub invariant-loop-s : goal.invariant-loop-s
invariant-loop-s l = RestHasAll l.signals unknown_start_at l.s
