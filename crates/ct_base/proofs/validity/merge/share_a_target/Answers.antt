-- The targets of a diverge are the cells of its branches.
use Rattle.std.specs.Prelude.{Contains}
use Rattle.ct_base.specs.Access.{targets}
use Rattle.ct_base.proofs.Branches.{some_cell_at}
use Rattle.ct_base.proofs.validity.merge.share_a_target.Goals as goal

pub returns-in-Turns : goal.returns-in-Turns
returns-in-Turns c =
    let both = some_cell_at (λ cell. Contains (targets c.args.other.now) cell) c.in-Turns.turns in
    rw c.in-Turns.is (
      λ yes. both.0 (rw c.as_slice.ensures at (c.leads_to_one_of.ensures.0 yes)),
      λ there. c.leads_to_one_of.ensures.1 (rw c.as_slice.ensures (both.1 there)),
    )
