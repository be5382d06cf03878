-- The value of prices over a box, and what is kept of it where prices and bounds change (docs/certificate.md, "Value").
use Rattle.std.specs.Prelude.{◌≡◌, ℕ, ◌<◌, ℤ, pos, ◌+ℤ◌, ◌-ℤ◌, ◌*ℤ◌, ◌≤ℤ◌, int_lt, Bool, true, not, ◌&&◌, if◌then◌else◌, List, length, slice_index_or, slice_set}
use Rattle.std.specs.Ordering.{int_eq}
use Rattle.sparse_program.specs.Box.{Ranges, high_of, low_of}
use Rattle.sparse_program.specs.Program.{Parts, entry, row_of, terms_of}
use Rattle.sparse_program.specs.Terms.{terms_sum}
use Rattle.certificate_model.specs.Value.{reduced_cost, value}
use Rattle.safe_bound.specs.Prices.{ArePrices, price_at}

-- a box, a price of each row, a reduced cost of each column, and a value. Prices, costs and the value count 1024ths of a unit of delay
pub record Kept : Type 0 where
  pub box : Ranges
  pub prices : List ℤ
  pub reduced : List ℤ
  pub value : ℤ

-- the reduced cost that is kept of a column; 0 where there is none
abbrev pub reduced_at : List ℤ → ℕ → ℤ
reduced_at reduced j = slice_index_or reduced j (pos 0)

-- the box is one of a program's columns, the prices are lawful for its rows, and what is kept are the reduced costs of the columns for
-- these prices, and their value over this box
pub record IsKeptOf (program : Parts) (kept : Kept) : Type 0 where
  pub columns : length kept.box.lows ≡ length program.columns
  pub lawful : ArePrices program.rows kept.prices
  pub one_per_column : length kept.reduced ≡ length program.columns
  pub reduced : (j : ℕ) → j < length program.columns → reduced_at kept.reduced j ≡ reduced_cost program true (price_at kept.prices) j
  pub value : kept.value ≡ value program true kept.box (price_at kept.prices)

-- prices of which the price of one row changes by a number
abbrev pub repriced : List ℤ → ℕ → ℤ → List ℤ
repriced prices row by = slice_set prices row (price_at prices row +ℤ by)

-- by how much the value of prices over a box rises where the price of one row changes by a number
abbrev pub gain_of : Parts → Ranges → List ℤ → ℕ → ℤ → ℤ
gain_of program box prices row by = value program true box (price_at (repriced prices row by)) -ℤ value program true box (price_at prices)

-- where the price of a row is changed by a number, no other change of it raises the value by more than along a straight line of this slope
abbrev pub IsSlope : Parts → Ranges → List ℤ → ℕ → ℤ → ℤ → Type 0
IsSlope program box prices row by slope = (other : ℤ) → gain_of program box prices row other ≤ℤ (gain_of program box prices row by +ℤ (other -ℤ by) *ℤ slope)

-- the bound at which a column comes to its least where one unit of it costs so much; where that is nothing, each of the two is one
abbrev pub best_bound : Ranges → ℤ → Bool → ℕ → ℤ
best_bound box cost low_if_both j =
    if int_lt (pos 0) cost then low_of box j else (if int_eq cost (pos 0) && low_if_both then low_of box j else high_of box j)

-- a column that costs nothing comes to its low as the price of a row with this coefficient at it rises, or as that falls
abbrev pub goes_to_low : ℤ → Bool → Bool
goes_to_low coefficient rises = if rises then int_lt coefficient (pos 0) else not (int_lt coefficient (pos 0))

-- where the price of a row is changed by a number: the bound at which a column comes to its least, and still does as that price rises
-- further, or as it falls
abbrev pub standing : Parts → Ranges → List ℤ → ℕ → ℤ → Bool → ℕ → ℤ
standing program box prices row by rises j =
    best_bound box (reduced_cost program true (price_at (repriced prices row by)) j) (goes_to_low (entry program.rows row j) rises) j

-- how steeply the value rises with that price as it rises further, or as it falls: the right side of the row, less its sum where columns
-- stand so
abbrev pub slope_of : Parts → Ranges → List ℤ → ℕ → ℤ → Bool → ℤ
slope_of program box prices row by rises =
    (row_of program.rows row).rhs -ℤ terms_sum (terms_of program.rows row) (standing program box prices row by rises)
