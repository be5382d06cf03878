-- What rows pay for each column, while the value of a few prices is computed: first the pairs pay, and then the columns of their rows
-- are settled one by one, so that nothing is paid any more.
use Rattle.std.specs.Prelude.{◌≡◌, ◌≢◌, ℕ, ◌^◌, ◌<◌, ◌≤◌, ℤ, pos, ◌-ℤ◌, unsigned_abs, Bool, List, All, length, slice_index_or}
use Rattle.listed.specs.Below.{whole_sum_below}
use Rattle.sparse_program.specs.Box.{Ranges}
use Rattle.sparse_program.specs.Program.{Parts, entry, row_of, terms_of}
use Rattle.sparse_program.specs.Terms.{terms_sum}
use Rattle.sparse_program.specs.declared.row.Row.{Row}
use Rattle.certificate_model.specs.Value.{column_value, cost_counted}

-- what is paid for a column; 0 where there is none
abbrev pub paid_at : List ℤ → ℕ → ℤ
paid_at paid j = slice_index_or paid j (pos 0)

-- there is one number of each column, and nothing is paid
pub record IsUnpaid (columns : ℕ) (paid : List ℤ) : Type 0 where
  pub long : length paid ≡ columns
  pub none : (j : ℕ) → paid_at paid j ≡ pos 0

-- no more is paid for a column than all rows can pay
pub record IsLight (paid : List ℤ) : Type 0 where
  pub each : (j : ℕ) → j < length paid → unsigned_abs (paid_at paid j) ≤ 2 ^ 79

-- what pairs of rows and prices pay for a column
abbrev pub paid_for : List Row → List (ℕ × ℤ) → ℕ → ℤ
paid_for rows pairs j = terms_sum pairs (λ i. entry rows i j)

-- what pairs pay for the right sides of their rows
abbrev pub paid_for_sides : List Row → List (ℕ × ℤ) → ℤ
paid_for_sides rows pairs = terms_sum pairs (λ i. (row_of rows i).rhs)

-- no row of the pairs names a column
abbrev pub IsUnnamed : List Row → List (ℕ × ℤ) → ℕ → Type 0
IsUnnamed rows pairs j = All (λ (pair : ℕ × ℤ). All (λ (term : ℕ × ℤ). term.0 ≢ j) (terms_of rows pair.0)) pairs

-- the least that all columns come to, each for its cost less what is paid for it
unfoldable pub least_left : Parts → Bool → Ranges → List ℤ → ℤ
least_left program with_cost box paid = whole_sum_below (length program.columns) (λ j. column_value box (cost_counted program with_cost j -ℤ paid_at paid j) j)
