use Rattle.std.proofs.Common.{arith}
use Rattle.std.proofs.lemmas.Bool.{lt-ltb, ltb-true}
use Rattle.branch_tree.specs.OpenTree.{opens, times}
use Rattle.branch_tree.proofs.TreeLaws.{opens_times}
use Rattle.solve_core.proofs.laws.open_leaves_are_nodes.Goals as goal

-- src/laws.rt
pub returns : goal.returns
returns c growing leaf here = lt-ltb 0 (times growing.tree leaf) (omega (arith, ltb-true 0 (opens growing.tree leaf) here, opens_times growing.tree leaf))
