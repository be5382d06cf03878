-- A cell more, which is separated from all others or not.
use Rattle.std.proofs.Common.{arith, refl, below_more}
use Rattle.std.proofs.lemmas.Bool.{false≢true, iff_false}
use Rattle.ct_base.proofs.validity.merge.are_merges_separated.Goals as goal

pub returns-then-not-is_separated : goal.returns-then-not-is_separated
returns-then-not-is_separated c = (
  λ yes. absurd (false≢true yes),
  λ all. absurd (iff_false c.is_separated.ensures c.if-not-is_separated.true (all c.loop-number.number c.loop-number-test.true)),
)

pub loop-number-preserved : goal.loop-number-preserved
loop-number-preserved c = below_more _ _ c.loop-number.invariant (c.is_separated.ensures.0 c.if-not-is_separated.false)

pub returns : goal.returns
returns c = (λ _ i within. c.loop-number.invariant i (omega arith), λ _. refl)
