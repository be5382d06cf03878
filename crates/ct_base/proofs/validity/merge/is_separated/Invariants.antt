-- The cell is separated from each one that was passed.
use Rattle.std.proofs.Common.{◌<◌, ◌≢◌, ℕ}
use Rattle.ct_base.specs.Validity.{AreSeparated}
use Rattle.ct_base.proofs.validity.merge.is_separated.Given as goal

abbrev pub invariant-loop-other : goal.invariant-loop-other
invariant-loop-other l = (k : ℕ) → k < l.other → l.number ≢ k → AreSeparated l.cells l.number k
