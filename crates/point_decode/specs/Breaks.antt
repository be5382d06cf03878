-- What keeps a list of values from being an integer point of a program, in the order of judging (docs/program.md, "From a
-- point to its plan").
use Rattle.std.specs.Prelude.{ℕ, ◌==◌, ℤ, int_le, Bool, true, false, not, ◌&&◌, List, ◌++◌, length}
use Rattle.std.specs.Ordering.{int_eq}
use Rattle.refusals.specs.Faults.{per_item, where_so}
use Rattle.sparse_program.specs.Program.{Parts}
use Rattle.sparse_program.specs.Terms.{terms_sum}
use Rattle.sparse_program.specs.declared.column.Col.{Col}
use Rattle.sparse_program.specs.declared.row.Row.{Row}
use Rattle.program_model.specs.Points.{value_at}
use Rattle.point_decode.specs.declared.broken.Broken.{Broken}
use Rattle.point_decode.specs.declared.broken.Broken.TheVariants.{Length, Column, Row as BrokenRow}

-- the value is within the bounds of the column
abbrev pub is_within : Col → ℤ → Bool
is_within col value = int_le col.low value && int_le value col.high

-- the sum is the right side or, where they need not be equal, at least that
abbrev pub reaches : Bool → ℤ → ℤ → Bool
reaches true rhs sum = int_eq sum rhs
reaches false rhs sum = int_le rhs sum

-- the values meet the row
abbrev pub is_met : Row → (ℕ → ℤ) → Bool
is_met row x = reaches row.equal row.rhs (terms_sum row.terms x)

-- the length, where there is not one value for each column
abbrev pub length_breaks : Parts → List ℤ → List Broken
length_breaks program point = where_so (not (length point == length program.columns)) (Length (length point))

-- a column, where its value is outside its bounds
abbrev pub column_breaks : List ℤ → ℕ → Col → List Broken
column_breaks point j col = where_so (not (is_within col (value_at point j))) (Column j)

-- a row, where the values do not meet it
abbrev pub row_breaks : List ℤ → ℕ → Row → List Broken
row_breaks point i row = where_so (not (is_met row (value_at point))) (BrokenRow i)

-- all that keeps a list from being an integer point: its length, then column by column, then row by row. The first decides.
unfoldable pub point_breaks : Parts → List ℤ → List Broken
point_breaks program point =
    length_breaks program point ++ per_item program.columns (column_breaks point) ++ per_item program.rows (row_breaks point)
