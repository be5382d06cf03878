use Rattle.queue_prices.specs.Zero.{AreZero}
use Rattle.queue_prices.proofs.costs.push_step.Given as goal

abbrev pub invariant-loop-i : goal.invariant-loop-i
invariant-loop-i l = AreZero l.gates → AreZero l.initial.costs.items → AreZero l.costs.items
