use Rattle.std.proofs.Common.{subst}
use Rattle.sparse_program.specs.Box.{Ranges}
use Rattle.certificate_model.specs.Leaves.{IsGoodLeaf}
use Rattle.certificate_model.specs.Tree.{IsGood}
use Rattle.branch_tree.proofs.GoodLaws.{good_whole}
use Rattle.branch_tree.proofs.laws.whole_trees_of_good_leaves_certify.Goals as goal

pub returns : goal.returns
returns c = λ net bound growing whole is root good closed.
    subst (λ (box : Ranges). IsGood (IsGoodLeaf net bound) box whole) root (good_whole (IsGoodLeaf net bound) growing.root growing.tree whole is.splits good closed)
