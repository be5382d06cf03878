use Rattle.cell_build.specs.Refusals.{initial_units_at}
use Rattle.cell_build.proofs.Walks.{RestHasAll}
use Rattle.cell_build.proofs.judge.initial_and_cells.initial_units.Given as goal

abbrev pub invariant-loop-k : goal.invariant-loop-k
invariant-loop-k l = RestHasAll l.links initial_units_at l.k
