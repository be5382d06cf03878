use Rattle.cell_build.specs.Refusals.{unknown_nexts_of}
use Rattle.cell_build.proofs.Walks.{RestHasAll}
use Rattle.cell_build.proofs.judge.unknown_phase.nexts_of_signals.Given as goal

abbrev pub invariant-loop-s : goal.invariant-loop-s
invariant-loop-s l = RestHasAll l.signals unknown_nexts_of l.s
