-- The targets of a diverge are the cells of its branches.
use Rattle.ct_base.proofs.Branches.{all_pairs_of_cells}
use Rattle.ct_base.proofs.validity.moves.is_split.Goals as goal

pub returns-in-Turns : goal.returns-in-Turns
returns-in-Turns c =
    let pairs = all_pairs_of_cells c.in-Turns.turns in
    let told = rw c.as_slice.ensures at c.are_branches.ensures in
    rw c.in-Turns.is (
      λ yes. let is = told.0 yes in (is.0, pairs.0 is.1, is.2),
      λ split. told.1 (split.0, pairs.1 split.1, split.2),
    )
