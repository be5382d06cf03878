use Rattle.listed.specs.Below.{join_below}
use Rattle.lo_program.specs.inner.Adding.{Adds}
use Rattle.lo_program.proofs.FloorLaws.{rows_of_branch}
use Rattle.lo_program.proofs.flows.floors.add_branches_rows.Given as goal

-- the rows of the branches that were passed were added
abbrev pub invariant-loop-k : goal.invariant-loop-k
invariant-loop-k l = Adds l.net l.fn.builder l.builder (join_below l.k (rows_of_branch l.net.cells l.t l.i l.branches))
