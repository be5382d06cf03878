use Rattle.std.proofs.Common.{◌≡◌, ◌≢◌, ℕ, ◌<◌, false, length, get_or}
use Rattle.std.specs.Prelude.{pos}
use Rattle.dual_prices.specs.inner.Waiting.{waits}
use Rattle.dual_prices.proofs.neighbours.wake_column.Given as goal

abbrev pub invariant-loop-term : goal.invariant-loop-term
invariant-loop-term l = record {
  long : length l.waiting ≡ length l.program.rows;
  calm : (i : ℕ) → waits l.waiting i ≡ false → waits l.initial.waiting i ≡ false;
  apart : (i : ℕ) → waits l.waiting i ≡ false → (k : ℕ) → k < l.term-index → (get_or l.column k (0, pos 0)).0 ≢ i;
}
