use Rattle.cell_build.specs.Refusals.{twice_turn_in}
use Rattle.cell_build.proofs.Walks.{RestHasAll}
use Rattle.cell_build.proofs.judge.outs.twice_turn_of.Given as goal

abbrev pub invariant-loop-j : goal.invariant-loop-j
invariant-loop-j l = RestHasAll l.turns (twice_turn_in l.turns l.k) l.j
