use Rattle.solve_core.proofs.StepLaws.{splitting_keeps}
use Rattle.solve_core.proofs.laws.first_splits_keep_the_tree.Goals as goal

pub returns : goal.returns
returns c = splitting_keeps
