-- The best plan has its delay, and is no worse than the first.
use Rattle.std.proofs.Common.{◌≤◌}
use Rattle.plan_rounding.specs.Replayed.{IsReplayed}
use Rattle.plan_rounding.proofs.starts.best_of_splits.Given as goal

abbrev pub invariant-loop : goal.invariant-loop
invariant-loop l = record {
  of : IsReplayed l.net l.best;
  no_worse : l.best.delay ≤ l.initial.best.delay;
}
