-- A cell and another.
use Rattle.ct_base.proofs.validity.merge.is_separated_from.Goals as goal

pub returns-else-number-other : goal.returns-else-number-other
returns-else-number-other c = (λ yes _. c.are_separated.ensures.0 yes, λ all. c.are_separated.ensures.1 (all c.if-number-other.false))
