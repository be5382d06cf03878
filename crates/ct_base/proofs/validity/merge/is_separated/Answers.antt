-- A cell more, from which the cell is separated or not.
use Rattle.std.proofs.Common.{arith, refl, below_more}
use Rattle.std.proofs.lemmas.Bool.{false≢true, iff_false}
use Rattle.ct_base.proofs.validity.merge.is_separated.Goals as goal

pub returns-then-not-is_separated_from : goal.returns-then-not-is_separated_from
returns-then-not-is_separated_from c = (
  λ yes. absurd (false≢true yes),
  λ all. absurd (iff_false c.is_separated_from.ensures c.if-not-is_separated_from.true (all c.loop-other.other c.loop-other-test.true)),
)

pub loop-other-preserved : goal.loop-other-preserved
loop-other-preserved c = below_more _ _ c.loop-other.invariant (c.is_separated_from.ensures.0 c.if-not-is_separated_from.false)

pub returns : goal.returns
returns c = (λ _ k within. c.loop-other.invariant k (omega arith), λ _. refl)
