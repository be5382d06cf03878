use Rattle.branch_tree.proofs.GoodLaws.{left_side, others_stay, right_side}
use Rattle.branch_tree.proofs.laws.splits_cut_the_box_of_their_leaf.Goals as goal

pub returns-clause-left : goal.returns-clause-left
returns-clause-left c = left_side

pub returns-clause-right : goal.returns-clause-right
returns-clause-right c = right_side

pub returns-clause-others : goal.returns-clause-others
returns-clause-others c = others_stay
