use Rattle.cell_build.specs.Refusals.{unknown_turn_at}
use Rattle.cell_build.specs.Names.{link_names}
use Rattle.cell_build.proofs.Walks.{RestHasAll}
use Rattle.cell_build.proofs.judge.unknown.unknown_turns.Given as goal

abbrev pub invariant-loop-j : goal.invariant-loop-j
invariant-loop-j l = RestHasAll l.turns (unknown_turn_at (link_names l.links) l.k) l.j
