-- Each cell that was passed is separated from all others.
use Rattle.std.proofs.Common.{◌<◌, ◌≢◌, ℕ, EachIndex}
use Rattle.ct_base.specs.Validity.{AreSeparated}
use Rattle.ct_base.proofs.validity.merge.are_merges_separated.Given as goal

abbrev pub invariant-loop-number : goal.invariant-loop-number
invariant-loop-number l = (i : ℕ) → i < l.number → EachIndex l.cells (λ k. i ≢ k → AreSeparated l.cells i k)
