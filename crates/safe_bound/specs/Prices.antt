-- Lawful prices, one of each row (docs/certificate.md, "Value").
use Rattle.std.specs.Prelude.{◌≡◌, ℕ, ◌<◌, ◌≤◌, ℤ, pos, unsigned_abs, List, length, All, slice_index_or}
use Rattle.sparse_program.specs.Program.{row_of}
use Rattle.sparse_program.specs.declared.row.Row.{Row}
use Rattle.certificate_model.specs.Value.{IsSigned, most_price}

-- the price of a row; 0 where there is none
abbrev pub price_at : List ℤ → ℕ → ℤ
price_at prices i = slice_index_or prices i (pos 0)

-- a price of each row: none is too great, and each is allowed on its row
pub record ArePrices (rows : List Row) (prices : List ℤ) : Type 0 where
  pub one_per_row : length prices ≡ length rows
  pub within : All (λ (price : ℤ). unsigned_abs price ≤ most_price) prices
  pub signed : (i : ℕ) → i < length rows → IsSigned (row_of rows i) (price_at prices i)
