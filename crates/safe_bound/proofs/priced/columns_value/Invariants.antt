use Rattle.std.proofs.Common.{◌≡◌, ◌≤◌, ◌*◌, ◌^◌, unsigned_abs}
use Rattle.safe_bound.specs.inner.Sums.{least_below}
use Rattle.safe_bound.proofs.priced.columns_value.Given as goal

abbrev pub invariant-loop-j : goal.invariant-loop-j
invariant-loop-j l = record {
  is : l.sum ≡ least_below l.program l.with_cost l.bounds l.prices l.j;
  small : unsigned_abs l.sum ≤ 2 ^ 99 * l.j;
}
