use Rattle.std.proofs.Common.{◌≡◌, pos, IfSome}
use Rattle.queue_prices.specs.Zero.{AreZero}
use Rattle.queue_prices.proofs.letters.best_letter.Given as goal

abbrev pub invariant-loop-column : goal.invariant-loop-column
invariant-loop-column l = AreZero l.earnings → IfSome l.best (λ best. best.earns ≡ pos 0)
