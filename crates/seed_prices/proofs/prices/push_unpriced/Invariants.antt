use Rattle.std.proofs.Common.{◌≡◌, ◌++◌}
use Rattle.std.specs.Prelude.{pos, replicate}
use Rattle.seed_prices.proofs.prices.push_unpriced.Given as goal

abbrev pub invariant-loop-row : goal.invariant-loop-row
invariant-loop-row l = l.prices.items ≡ l.initial.prices.items ++ replicate l._row (pos 0)
