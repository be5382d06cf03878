use Rattle.std.proofs.Common.{◌≡◌, pos}
use Rattle.queue_prices.specs.Zero.{AreZero}
use Rattle.queue_prices.proofs.costs.cost_of_parcel.Given as goal

abbrev pub invariant-loop-next : goal.invariant-loop-next
invariant-loop-next l = l.toll ≡ pos 0 → AreZero l.costs → l.cost ≡ pos 0
