use Rattle.queue_prices.specs.Zero.{AreZero}
use Rattle.queue_prices.proofs.prices.add_step.Given as goal

abbrev pub invariant-loop-i : goal.invariant-loop-i
invariant-loop-i l = AreZero l.gates → AreZero l.costs → AreZero l.initial.rises → AreZero l.rises
