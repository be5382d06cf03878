-- Two cells that lead into one cell have to be apart.
use Rattle.ct_base.proofs.validity.merge.are_separated.Goals as goal

pub returns-else-not-share_a_target : goal.returns-else-not-share_a_target
returns-else-not-share_a_target c =
    rw (← c.cell_at-one.ensures, ← c.cell_at-other.ensures) (
      λ yes j _ _. c.are_apart.ensures.0 yes,
      λ all.
          let there = c.share_a_target.ensures.0 c.if-not-share_a_target.false in
          c.are_apart.ensures.1 (all there.0 there.1 there.2),
    )
