use Rattle.cell_build.specs.Refusals.{twice_turn_at}
use Rattle.cell_build.proofs.Walks.{RestHasAll}
use Rattle.cell_build.proofs.judge.outs.twice_turn.Given as goal

abbrev pub invariant-loop-k : goal.invariant-loop-k
invariant-loop-k l = RestHasAll l.links twice_turn_at l.k
