use Rattle.cell_build.specs.Refusals.{fed_at}
use Rattle.cell_build.proofs.Walks.{RestHasAll}
use Rattle.cell_build.proofs.judge.merges.fed.Given as goal

abbrev pub invariant-loop-k : goal.invariant-loop-k
invariant-loop-k l = RestHasAll l.links (fed_at l.links) l.k
