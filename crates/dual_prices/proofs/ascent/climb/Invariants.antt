use Rattle.std.proofs.Common.{◌≡◌, ◌*◌, ◌≤◌, length}
use Rattle.std.specs.Prelude.{pos, ◌+ℤ◌, ◌≤ℤ◌}
use Rattle.kept_value.specs.Kept.{IsKeptOf}
use Rattle.dual_prices.specs.inner.Waiting.{AreWaiting}
use Rattle.dual_prices.proofs.ascent.climb.Given as goal

abbrev pub invariant-loop-t : goal.invariant-loop-t
invariant-loop-t l = record {
  of : IsKeptOf l.program l.kept;
  ranges : l.kept.box ≡ l.initial.kept.box;
  value : (l.initial.kept.value +ℤ pos (64 * l._t)) ≤ℤ l.kept.value;
  waiting : AreWaiting l.program l.kept l.waiting;
  from : l.from ≤ length l.program.rows;
}
