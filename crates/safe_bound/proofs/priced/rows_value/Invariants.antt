use Rattle.std.proofs.Common.{◌≡◌, ◌≤◌, ◌*◌, ◌^◌, unsigned_abs}
use Rattle.safe_bound.specs.inner.Sums.{paid_below}
use Rattle.safe_bound.proofs.priced.rows_value.Given as goal

abbrev pub invariant-loop-i : goal.invariant-loop-i
invariant-loop-i l = record {
  is : l.sum ≡ paid_below l.program.rows l.prices l.i;
  small : unsigned_abs l.sum ≤ 2 ^ 60 * l.i;
}
