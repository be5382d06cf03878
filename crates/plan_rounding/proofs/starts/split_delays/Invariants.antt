-- The replay is that of the split that was tried last.
use Rattle.plan_rounding.specs.inner.Climbs.{IsClimb}
use Rattle.plan_rounding.proofs.starts.split_delays.Given as goal

abbrev pub invariant-loop-number : goal.invariant-loop-number
invariant-loop-number l = IsClimb l.net l.climb
