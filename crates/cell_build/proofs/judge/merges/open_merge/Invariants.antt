use Rattle.cell_build.specs.Refusals.{open_merge_at}
use Rattle.cell_build.proofs.Walks.{RestHasAll}
use Rattle.cell_build.proofs.judge.merges.open_merge.Given as goal

abbrev pub invariant-loop-k : goal.invariant-loop-k
invariant-loop-k l = RestHasAll l.links (open_merge_at l.signals l.links) l.k
