use Rattle.std.proofs.Common.{ℕ, ◌<◌, ◌≤◌, unsigned_abs}
use Rattle.sparse_program.specs.Program.{row_of}
use Rattle.certificate_model.specs.Value.{IsSigned, most_price}
use Rattle.safe_bound.specs.Prices.{price_at}
use Rattle.safe_bound.proofs.lawful.are_prices.Given as goal

abbrev pub invariant-loop-i : goal.invariant-loop-i
invariant-loop-i l = (k : ℕ) → k < l.i → (unsigned_abs (price_at l.prices k) ≤ most_price) × IsSigned (row_of l.program.rows k) (price_at l.prices k)
