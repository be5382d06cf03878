-- The value of prices over a box (docs/certificate.md, "Value"). Weak duality with bounded variables, after Neumaier and
-- Shcherbina 2004. Prices and values count 1024ths of a unit of delay.
use Rattle.std.specs.Prelude.{◌≡◌, ◌≢◌, ◌⊎◌, ℕ, ◌<◌, ◌≤◌, ℤ, pos, ◌+ℤ◌, ◌-ℤ◌, ◌*ℤ◌, ◌≤ℤ◌, unsigned_abs, Bool, true, if◌then◌else◌, List, length, All}
use Rattle.std.specs.Int.{int_min}
use Rattle.listed.specs.Below.{whole_sum_below}
use Rattle.sparse_program.specs.Box.{Ranges, high_of, low_of}
use Rattle.sparse_program.specs.Program.{Holds, IsRow, Parts, col_of, column_of, row_of}
use Rattle.sparse_program.specs.Terms.{Rises, coefficient, terms_sum}
use Rattle.sparse_program.specs.declared.row.Row.{Row}
use Rattle.certificate_model.specs.declared.constants.TheConstants.{MAX_PRICE, SCALE}

-- how many parts of prices are one unit of delay
abbrev pub scale : ℕ
scale = SCALE

-- what one unit of a column costs, or nothing where costs are left out
abbrev pub cost_counted : Parts → Bool → ℕ → ℤ
cost_counted program with_cost j = if with_cost then pos scale *ℤ (col_of program.columns j).cost else pos 0

-- the reduced cost of a column: what one unit of it costs, less what its rows pay for it
abbrev pub reduced_cost : Parts → Bool → (ℕ → ℤ) → ℕ → ℤ
reduced_cost program with_cost prices j = cost_counted program with_cost j -ℤ terms_sum (column_of program.rows j) prices

-- the least that a column comes to within its bounds
abbrev pub column_value : Ranges → ℤ → ℕ → ℤ
column_value box cost j = int_min (cost *ℤ low_of box j) (cost *ℤ high_of box j)

-- the value of prices, one of each row, over a box: what the rows pay for their right sides, and the least that each column comes to
unfoldable pub value : Parts → Bool → Ranges → (ℕ → ℤ) → ℤ
value program with_cost box prices =
    whole_sum_below (length program.rows) (λ i. prices i *ℤ (row_of program.rows i).rhs)
    +ℤ whole_sum_below (length program.columns) (λ j. column_value box (reduced_cost program with_cost prices j) j)

-- the greatest absolute value of a price
abbrev pub most_price : ℕ
most_price = MAX_PRICE

-- a price is allowed on a row: it is not below 0 where the row need not be equal
abbrev pub IsSigned : Row → ℤ → Type 0
IsSigned row price = (row.equal ≡ true) ⊎ (pos 0 ≤ℤ price)

-- lawful prices, as pairs of a row and its price: the rows exist and rise, no price is 0, none is too great, and each is
-- allowed on its row. A row that is not named has price 0.
pub record AreLawful (rows : List Row) (pairs : List (ℕ × ℤ)) : Type 0 where
  pub there : All (λ (pair : ℕ × ℤ). pair.0 < length rows) pairs
  pub rises : Rises pairs
  pub some : All (λ (pair : ℕ × ℤ). pair.1 ≢ pos 0) pairs
  pub within : All (λ (pair : ℕ × ℤ). unsigned_abs pair.1 ≤ most_price) pairs
  pub signed : All (λ (pair : ℕ × ℤ). IsSigned (row_of rows pair.0) pair.1) pairs

-- the value of pairs over a box
abbrev pub value_of_pairs : Parts → Bool → Ranges → List (ℕ × ℤ) → ℤ
value_of_pairs program with_cost box pairs = value program with_cost box (coefficient pairs)

-- a point lies in a box: each value within the bounds of its column
abbrev pub IsInside : ℕ → Ranges → (ℕ → ℤ) → Type 0
IsInside columns box x = (j : ℕ) → j < columns → (low_of box j ≤ℤ x j) × (x j ≤ℤ high_of box j)

-- what a point costs: the program's objective at its values
abbrev pub objective_at : Parts → (ℕ → ℤ) → ℤ
objective_at program x = whole_sum_below (length program.columns) (λ j. (col_of program.columns j).cost *ℤ x j)

-- a point of a box under prices: the program's rows are lawful, the prices too, and the point lies in the box and meets all rows
pub record IsPricedPoint (program : Parts) (box : Ranges) (pairs : List (ℕ × ℤ)) (x : ℕ → ℤ) : Type 0 where
  pub rows : All (IsRow (length program.columns)) program.rows
  pub lawful : AreLawful program.rows pairs
  pub inside : IsInside (length program.columns) box x
  pub meets : (i : ℕ) → i < length program.rows → Holds (row_of program.rows i) x
