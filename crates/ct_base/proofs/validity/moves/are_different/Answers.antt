-- A branch is compared with those before it.
use Rattle.std.proofs.lemmas.Bool.{false≢true, iff_false}
use Rattle.ct_base.proofs.Branches.{pairs_broken, pairs_more}
use Rattle.ct_base.proofs.validity.moves.are_different.Goals as goal

pub returns-then-has_branch_to : goal.returns-then-has_branch_to
returns-then-has_branch_to c = (
  λ yes. absurd (false≢true yes),
  λ all. absurd (pairs_broken c.args.turns.now c.loop-later.later c.loop-later-test.true (c.has_branch_to.ensures.0 c.if-has_branch_to.true) all),
)

pub loop-later-preserved : goal.loop-later-preserved
loop-later-preserved c =
    pairs_more c.args.turns.now c.loop-later.later c.loop-later-test.true c.loop-later.invariant (iff_false c.has_branch_to.ensures c.if-has_branch_to.false)
