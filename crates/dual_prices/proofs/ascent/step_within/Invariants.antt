use Rattle.std.proofs.Common.{◌≡◌, ℕ, ◌<◌, ◌≤◌, false}
use Rattle.dual_prices.specs.inner.Waiting.{AreWaiting, waits}
use Rattle.dual_prices.proofs.ascent.step_within.Given as goal

abbrev pub invariant-loop-row : goal.invariant-loop-row
invariant-loop-row l = record {
  waiting : AreWaiting l.program l.kept l.waiting;
  calm : (i : ℕ) → waits l.initial.waiting i ≡ false → waits l.waiting i ≡ false;
  none : (i : ℕ) → l.fn.from ≤ i → i < l.row → waits l.waiting i ≡ false;
}
