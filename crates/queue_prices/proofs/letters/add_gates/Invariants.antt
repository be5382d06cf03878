use Rattle.queue_prices.specs.Zero.{AreZero}
use Rattle.queue_prices.proofs.letters.add_gates.Given as goal

abbrev pub invariant-loop-gate : goal.invariant-loop-gate
invariant-loop-gate l = AreZero l.tolls → AreZero l.initial.earnings → AreZero l.earnings
