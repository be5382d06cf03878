use Rattle.queue_prices.specs.Tolls.{IsFree}
use Rattle.queue_prices.specs.Zero.{AreZero}
use Rattle.queue_prices.proofs.prices.add_rules.Given as goal

abbrev pub invariant-loop-row : goal.invariant-loop-row
invariant-loop-row l = IsFree l.tolls → AreZero l.initial.rises → AreZero l.rises
