use Rattle.queue_prices.specs.Zero.{AreZero}
use Rattle.queue_prices.proofs.letters.add_rules.Given as goal

abbrev pub invariant-loop-row : goal.invariant-loop-row
invariant-loop-row l = AreZero l.tolls → AreZero l.initial.earnings → AreZero l.earnings
