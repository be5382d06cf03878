use Rattle.std.proofs.Common.{◌≡◌}
use Rattle.solve_core.specs.inner.PricePairs.{pairs_below}
use Rattle.solve_core.proofs.pairs.pairs_of.Given as goal

abbrev pub invariant-loop-row : goal.invariant-loop-row
invariant-loop-row l = l.pairs ≡ pairs_below l.prices l.row
