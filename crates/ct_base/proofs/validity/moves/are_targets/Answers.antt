-- The targets of a diverge are the cells of its branches.
use Rattle.ct_base.specs.Validity.{IsTarget}
use Rattle.ct_base.proofs.Branches.{all_cells}
use Rattle.ct_base.proofs.validity.moves.are_targets.Goals as goal

pub returns-in-Turns : goal.returns-in-Turns
returns-in-Turns c =
    let both = all_cells (IsTarget c.args.cells.now c.args.from) c.in-Turns.turns in
    rw (c.in-Turns.is) (
      λ yes. both.0 (rw c.as_slice.ensures at (c.are_branch_targets.ensures.0 yes)),
      λ all. c.are_branch_targets.ensures.1 (rw c.as_slice.ensures (both.1 all)),
    )
