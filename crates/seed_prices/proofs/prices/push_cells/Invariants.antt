use Rattle.std.proofs.Common.{◌≡◌, ◌++◌}
use Rattle.listed.specs.Below.{join_below}
use Rattle.seed_prices.specs.Seed.{seed_at}
use Rattle.seed_prices.proofs.prices.push_cells.Given as goal

abbrev pub invariant-loop-i : goal.invariant-loop-i
invariant-loop-i l = l.prices.items ≡ l.initial.prices.items ++ join_below l.i (seed_at l.net l.t)
