use Rattle.branch_tree.proofs.GoodLaws.{closing_stays}
use Rattle.branch_tree.proofs.laws.closing_keeps_all_boxes.Goals as goal

pub returns : goal.returns
returns c = closing_stays
