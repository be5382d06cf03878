use Rattle.solve_core.proofs.WholeLaws.{whole_is_searched}
use Rattle.solve_core.proofs.laws.whole_trees_are_searched.Goals as goal

pub returns : goal.returns
returns c = whole_is_searched
