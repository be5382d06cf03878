use Rattle.queue_prices.specs.Zero.{AreZero}
use Rattle.queue_prices.proofs.prices.add_flows.Given as goal

abbrev pub invariant-loop-t : goal.invariant-loop-t
invariant-loop-t l = AreZero l.gates → AreZero l.initial.rises → AreZero l.rises
