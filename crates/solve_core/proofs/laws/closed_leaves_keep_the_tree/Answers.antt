use Rattle.solve_core.proofs.StepLaws.{closing_keeps}
use Rattle.solve_core.proofs.laws.closed_leaves_keep_the_tree.Goals as goal

pub returns : goal.returns
returns c = closing_keeps
