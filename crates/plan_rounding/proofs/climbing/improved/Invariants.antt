-- The climb goes on, and its plan is no worse than the first.
use Rattle.std.proofs.Common.{◌≤◌}
use Rattle.plan_rounding.specs.inner.Climbs.{IsClimb}
use Rattle.plan_rounding.proofs.climbing.improved.Given as goal

abbrev pub invariant-loop : goal.invariant-loop
invariant-loop l = record {
  of : IsClimb l.net l.climb;
  no_worse : l.climb.delay ≤ l.initial.climb.delay;
}
