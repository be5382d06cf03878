use Rattle.solve_core.proofs.StepLaws.{open_leaf_has_room}
use Rattle.solve_core.proofs.laws.unfixed_leaves_have_room.Goals as goal

pub returns : goal.returns
returns c = open_leaf_has_room
