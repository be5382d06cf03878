use Rattle.solve_core.proofs.StepLaws.{reached_for_lesser, tree_for_lesser}
use Rattle.solve_core.proofs.laws.lesser_delays_keep_the_tree.Goals as goal

pub returns : goal.returns
returns c = record { tree = tree_for_lesser; reached = reached_for_lesser }
