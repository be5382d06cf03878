use Rattle.cell_build.specs.Refusals.{unknown_greens_at}
use Rattle.cell_build.proofs.Walks.{RestHasAll}
use Rattle.cell_build.proofs.judge.unknown_phase.greens_of_links.Given as goal

abbrev pub invariant-loop-k : goal.invariant-loop-k
invariant-loop-k l = RestHasAll l.links (unknown_greens_at l.signals) l.k
