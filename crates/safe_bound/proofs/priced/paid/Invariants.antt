use Rattle.std.proofs.Common.{◌≡◌, ◌≤◌, ◌*◌, ◌^◌, take, unsigned_abs}
use Rattle.sparse_program.specs.Terms.{terms_sum}
use Rattle.safe_bound.specs.Prices.{price_at}
use Rattle.safe_bound.proofs.priced.paid.Given as goal

abbrev pub invariant-loop-entry : goal.invariant-loop-entry
invariant-loop-entry l = record {
  is : l.sum ≡ terms_sum (take l.entry-index l.column) (price_at l.prices);
  small : unsigned_abs l.sum ≤ 2 ^ 60 * l.entry-index;
}
