use Rattle.cell_build.specs.Refusals.{itself_at}
use Rattle.cell_build.proofs.Walks.{RestHasAll}
use Rattle.cell_build.proofs.judge.outs.itself.Given as goal

abbrev pub invariant-loop-k : goal.invariant-loop-k
invariant-loop-k l = RestHasAll l.links itself_at l.k
