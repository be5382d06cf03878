-- A program: its columns and rows, what of them is lawful, and its rows seen from the columns.
use Rattle.std.specs.Prelude.{◌≡◌, ℕ, ◌≤◌, ℤ, pos, ◌+ℤ◌, ◌-ℤ◌, ◌≤ℤ◌, List, [], Bool, true, false, All, filter, map, length, slice_index_or}
use Rattle.listed.specs.Below.{join_below}
use Rattle.sparse_program.specs.Terms.{IsSmall, AreTerms, names, coefficient, terms_sum, nonzero}
use Rattle.sparse_program.specs.declared.limits.TheConstants.{MAX_ROWS, MAX_COLUMNS, MAX_TERMS}
use Rattle.sparse_program.specs.declared.column.Col.{Col}
use Rattle.sparse_program.specs.declared.row.Row.{Row}
use Rattle.sparse_program.specs.declared.row.Linear.{Linear}

-- what stands for a column that is not there
abbrev pub no_col : Col
no_col = record { low = pos 0; high = pos 0; cost = pos 0 }

-- what stands for a row that is not there
abbrev pub no_row : Row
no_row = record { equal = true; rhs = pos 0; terms = [] }

-- the column with a number
abbrev pub col_of : List Col → ℕ → Col
col_of columns j = slice_index_or columns j no_col

-- the row with a number
abbrev pub row_of : List Row → ℕ → Row
row_of rows i = slice_index_or rows i no_row

-- the terms of the row with a number
abbrev pub terms_of : List Row → ℕ → List (ℕ × ℤ)
terms_of rows i = (row_of rows i).terms

-- a_ij, the coefficient of row i at column j
abbrev pub entry : List Row → ℕ → ℕ → ℤ
entry rows i j = coefficient (terms_of rows i) j

-- what row i, which has these terms, is at column j: its number with the coefficient, where it has a term there
abbrev pub terms_at : ℕ → ℕ → List (ℕ × ℤ) → List (ℕ × ℤ)
terms_at i j terms = map (λ (term : ℕ × ℤ). (i, term.1)) (filter (names j) terms)

-- column j of the first m rows: each of these rows that names it, with its coefficient
abbrev pub column_to : List Row → ℕ → ℕ → List (ℕ × ℤ)
column_to rows m j = join_below m (λ i. terms_at i j (terms_of rows i))

-- column j: each row that names it, with its coefficient
abbrev pub column_of : List Row → ℕ → List (ℕ × ℤ)
column_of rows j = column_to rows (length rows) j

-- a sum is the right side or, where they need not be equal, at least that
abbrev pub Reaches : Bool → ℤ → ℤ → Type 0
Reaches true rhs sum = sum ≡ rhs
Reaches false rhs sum = rhs ≤ℤ sum

-- a row holds at values of the columns
abbrev pub Holds : Row → (ℕ → ℤ) → Type 0
Holds row x = Reaches row.equal row.rhs (terms_sum row.terms x)

-- the value of a linear expression: its constant and the sum of its terms
abbrev pub linear_value : Linear → (ℕ → ℤ) → ℤ
linear_value of x = of.constant +ℤ terms_sum of.terms x

-- the row that says that a linear expression is equal to a number, or at least that: the constant goes to the right
-- side, and terms with coefficient 0 are left out
abbrev pub row_from : Bool → ℤ → Linear → Row
row_from equal rhs of = record { equal = equal; rhs = rhs -ℤ of.constant; terms = nonzero of.terms }

-- a column's low is at most its high, and its numbers are small
pub record IsCol (col : Col) : Type 0 where
  pub bounds : col.low ≤ℤ col.high
  pub low : IsSmall col.low
  pub high : IsSmall col.high
  pub cost : IsSmall col.cost

-- a row's terms are few, and name columns that exist, which rise; its numbers are small
pub record IsRow (columns : ℕ) (row : Row) : Type 0 where
  pub terms : AreTerms columns row.terms
  pub few : length row.terms ≤ MAX_TERMS
  pub rhs : IsSmall row.rhs

-- columns and rows within the limits
pub record AreBuilt (columns : List Col) (rows : List Row) : Type 0 where
  pub few_columns : length columns ≤ MAX_COLUMNS
  pub few_rows : length rows ≤ MAX_ROWS
  pub each_column : All IsCol columns
  pub each_row : All (IsRow (length columns)) rows

-- what is built of a program so far
pub record Begun : Type 0 where
  pub columns : List Col
  pub rows : List Row

-- a program: its columns, of which the first are those of the plan, and its rows
pub record Parts : Type 0 where
  pub columns : List Col
  pub rows : List Row
  pub plan_cols : ℕ

-- what every program keeps
pub record IsProgram (parts : Parts) : Type 0 where
  pub built : AreBuilt parts.columns parts.rows
  pub plan : parts.plan_cols ≤ length parts.columns
