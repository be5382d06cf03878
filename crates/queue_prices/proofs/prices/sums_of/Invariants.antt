use Rattle.std.proofs.Common.{◌≡◌, take}
use Rattle.queue_prices.specs.Zero.{AreZero}
use Rattle.queue_prices.proofs.prices.sums_of.Given as goal

abbrev pub invariant-loop-i : goal.invariant-loop-i
invariant-loop-i l = AreZero l.rises → l.sums.items ≡ take l.i l.seed
