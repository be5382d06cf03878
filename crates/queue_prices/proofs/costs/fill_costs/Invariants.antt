use Rattle.queue_prices.specs.Zero.{AreZero}
use Rattle.queue_prices.proofs.costs.fill_costs.Given as goal

abbrev pub invariant-loop-cell : goal.invariant-loop-cell
invariant-loop-cell l = AreZero l.costs.items

abbrev pub invariant-loop-left : goal.invariant-loop-left
invariant-loop-left l = AreZero l.gates → AreZero l.costs.items
