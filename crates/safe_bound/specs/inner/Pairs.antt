-- Pairs of a row and its price, one by one.
use Rattle.std.specs.Prelude.{◌≢◌, ℕ, ◌<◌, ◌≤◌, ℤ, pos, unsigned_abs, List, length}
use Rattle.sparse_program.specs.Program.{row_of}
use Rattle.sparse_program.specs.declared.row.Row.{Row}
use Rattle.certificate_model.specs.Value.{IsSigned, most_price}

-- the row of a pair exists, and its price is not 0, not too great, and allowed on the row
pub record IsLawfulPair (rows : List Row) (pair : ℕ × ℤ) : Type 0 where
  pub there : pair.0 < length rows
  pub some : pair.1 ≢ pos 0
  pub within : unsigned_abs pair.1 ≤ most_price
  pub signed : IsSigned (row_of rows pair.0) pair.1
