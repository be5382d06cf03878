use Rattle.cell_build.specs.Refusals.{unknown_signal_at}
use Rattle.cell_build.specs.Names.{signal_names}
use Rattle.cell_build.proofs.Walks.{RestHasAll}
use Rattle.cell_build.proofs.judge.unknown.unknown_signal.Given as goal

abbrev pub invariant-loop-k : goal.invariant-loop-k
invariant-loop-k l = RestHasAll l.links (unknown_signal_at (signal_names l.signals)) l.k
