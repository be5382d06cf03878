use Rattle.cell_build.specs.Refusals.{unknown_link_at}
use Rattle.cell_build.specs.Names.{link_names}
use Rattle.cell_build.proofs.Walks.{RestHasAll}
use Rattle.cell_build.proofs.judge.unknown.unknown_link_in.Given as goal

abbrev pub invariant-loop-k : goal.invariant-loop-k
invariant-loop-k l = RestHasAll l.links (unknown_link_at (link_names l.all)) l.k
