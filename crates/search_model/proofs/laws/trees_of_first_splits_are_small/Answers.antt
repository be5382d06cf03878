use Rattle.search_model.proofs.SplitLaws.{few_nodes, room_for_more}
use Rattle.search_model.proofs.laws.trees_of_first_splits_are_small.Goals as goal

pub returns : goal.returns
returns c = record { most = few_nodes; room = room_for_more }
