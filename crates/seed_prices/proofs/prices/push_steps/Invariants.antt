use Rattle.std.proofs.Common.{◌≡◌, ◌++◌, length}
use Rattle.listed.specs.Below.{join_below}
use Rattle.seed_prices.specs.Seed.{seed_at}
use Rattle.seed_prices.proofs.prices.push_steps.Given as goal

abbrev pub invariant-loop-t : goal.invariant-loop-t
invariant-loop-t l = l.prices.items ≡ l.initial.prices.items ++ join_below l.t (λ t. join_below (length l.net.cells) (seed_at l.net t))
