-- The targets of a diverge are the cells of its branches.
use Rattle.ct_base.proofs.Branches.{some_cell}
use Rattle.ct_base.proofs.validity.moves.leads_to.Goals as goal

pub returns-in-Turns : goal.returns-in-Turns
returns-in-Turns c =
    let both = some_cell c.in-Turns.turns c.args.target in
    rw (c.in-Turns.is) (
      λ yes. both.0 (rw c.as_slice.ensures at (c.has_branch_to.ensures.0 yes)),
      λ there. c.has_branch_to.ensures.1 (rw c.as_slice.ensures (both.1 there)),
    )
