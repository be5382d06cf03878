use Rattle.std.proofs.Common.{◌≡◌, ℕ, ◌+◌, ◌-◌, ◌≤◌}
use Rattle.dual_prices.specs.inner.Gains.{IsBestFrom, IsBestTo}
use Rattle.dual_prices.proofs.turn.turn_of.Given as goal

abbrev pub invariant-loop-low : goal.invariant-loop-low
invariant-loop-low l = record {
  order : l.low ≤ l.high;
  few : l.high ≤ 17;
  before : (k : ℕ) → k + 1 ≡ l.low → IsBestTo l.program l.kept l.row l.falls k;
  after : l.high ≤ 16 → IsBestFrom l.program l.kept l.row l.falls l.high;
}

abbrev pub decreases-loop-low : goal.decreases-loop-low
decreases-loop-low l = l.high - l.low
