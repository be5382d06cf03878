use Rattle.std.proofs.Common.{◌+◌}
use Rattle.certificate_model.specs.Leaves.{IsGoodLeaf}
use Rattle.branch_tree.specs.OpenTree.{size}
use Rattle.branch_tree.proofs.GoodLaws.{good_closed, good_split}
use Rattle.branch_tree.proofs.laws.good_leaves_stay_good.Goals as goal

pub returns-clause-split : goal.returns-clause-split
returns-clause-split c = λ net bound growing leaf column at good.
    good_split (IsGoodLeaf net bound) leaf column at (size growing.tree, size growing.tree + 1) growing.root growing.tree good

pub returns-clause-closed : goal.returns-clause-closed
returns-clause-closed c = λ net bound growing leaf how is good here. good_closed (IsGoodLeaf net bound) growing leaf how is good here
