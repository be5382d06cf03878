use Rattle.branch_tree.proofs.GoodLaws.{closed_shut, closed_stays, sides_open, split_shut, split_stays}
use Rattle.branch_tree.proofs.laws.leaves_stay_open.Goals as goal

pub returns-clause-split : goal.returns-clause-split
returns-clause-split c = split_shut

pub returns-clause-sides : goal.returns-clause-sides
returns-clause-sides c = sides_open

pub returns-clause-others : goal.returns-clause-others
returns-clause-others c = split_stays

pub returns-clause-closed : goal.returns-clause-closed
returns-clause-closed c = closed_shut

pub returns-clause-closed_others : goal.returns-clause-closed_others
returns-clause-closed_others c = closed_stays
