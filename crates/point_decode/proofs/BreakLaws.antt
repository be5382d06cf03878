-- Nothing breaks a list exactly where it is an integer point.
use Rattle.std.proofs.Common.{◌≡◌, ℕ, ◌<◌, ◌==◌, Bool, true, false, List, [], ◌++◌, length, get_or, refl, subst, arith}
use Rattle.std.specs.Prelude.{ℤ, ◌≤ℤ◌, int_le, not, ◌&&◌}
use Rattle.std.proofs.lemmas.Bool.Decides.{Decides-int_eq}
use Rattle.std.proofs.lemmas.List.{get_or_default}
use Rattle.listed.proofs.JoinLaws.{append_none}
use Rattle.refusals.specs.Faults.{per_item, where_so}
use Rattle.refusals.proofs.Items.{per_item_none, per_item_of_none}
use Rattle.sparse_program.specs.Program.{Holds, Parts, Reaches, col_of, no_col, no_row, row_of}
use Rattle.sparse_program.specs.Terms.{terms_sum}
use Rattle.sparse_program.specs.declared.column.Col.{Col}
use Rattle.sparse_program.specs.declared.row.Row.{Row}
use Rattle.program_model.specs.Points.{IsIntegerPoint, value_at}
use Rattle.certificate_model.proofs.ReasonLaws.{int_le-true, le-int_le}
use Rattle.point_decode.specs.Breaks.{column_breaks, is_within, length_breaks, point_breaks, reaches, row_breaks}

-- ---- the tests

-- a test that gives no fault holds
pub holds_without : {E : Type 0} (test : Bool) (fault : E) → where_so (not test) fault ≡ [] → test ≡ true
holds_without true fault none = refl
holds_without false fault none = absurd (cc)

-- and one that holds gives none
pub none_where : {E : Type 0} (test : Bool) (fault : E) → test ≡ true → where_so (not test) fault ≡ []
none_where test fault holds = rw holds refl

-- two tests hold
both_hold : (a b : Bool) → (a && b) ≡ true → (a ≡ true) × (b ≡ true)
both_hold true b holds = (refl, holds)
both_hold false b holds = absurd (cc)

-- a value is within the bounds of a column
pub record IsWithin (col : Col) (value : ℤ) : Type 0 where
  pub low : col.low ≤ℤ value
  pub high : value ≤ℤ col.high

pub within : (col : Col) (value : ℤ) → is_within col value ≡ true → IsWithin col value
within col value holds =
    let both = both_hold (int_le col.low value) (int_le value col.high) holds in
    record { low = int_le-true col.low value both.0; high = int_le-true value col.high both.1 }

within_test : (col : Col) (value : ℤ) → IsWithin col value → is_within col value ≡ true
within_test col value is = rw (le-int_le col.low value is.low, le-int_le value col.high is.high) refl

-- a sum reaches a right side
reaches_is : (equal : Bool) (rhs sum : ℤ) → reaches equal rhs sum ≡ true → Reaches equal rhs sum
reaches_is true rhs sum holds = (Decides-int_eq sum rhs).0 holds
reaches_is false rhs sum holds = int_le-true rhs sum holds

reaches_test : (equal : Bool) (rhs sum : ℤ) → Reaches equal rhs sum → reaches equal rhs sum ≡ true
reaches_test true rhs sum is = (Decides-int_eq sum rhs).1 is
reaches_test false rhs sum is = le-int_le rhs sum is

-- ---- lists

-- no column is broken: each value is within its bounds
pub all_within : (program : Parts) (point : List ℤ) → per_item program.columns (column_breaks point) ≡ [] → (j : ℕ) → j < length program.columns → IsWithin (col_of program.columns j) (value_at point j)
all_within program point none j inside =
    within (col_of program.columns j) (value_at point j) (holds_without _ _ (per_item_none program.columns (column_breaks point) j no_col none inside))

-- nothing breaks the list
pub unbroken_is_point : (program : Parts) (point : List ℤ) → point_breaks program point ≡ [] → IsIntegerPoint program point
unfolding point_breaks
unbroken_is_point program point none =
    let parts = append_none (length_breaks program point ++ per_item program.columns (column_breaks point)) (per_item program.rows (row_breaks point)) none in
    let front = append_none (length_breaks program point) (per_item program.columns (column_breaks point)) parts.0 in
    let long : (length point == length program.columns) ≡ true = holds_without _ _ front.0 in
    record {
      one_per_column = grind (arith, long);
      low = λ j inside. (all_within program point front.1 j inside).low;
      high = λ j inside. (all_within program point front.1 j inside).high;
      rows = λ i inside. reaches_is (row_of program.rows i).equal (row_of program.rows i).rhs (terms_sum (row_of program.rows i).terms (value_at point))
          (holds_without _ _ (per_item_none program.rows (row_breaks point) i no_row parts.1 inside));
    }

-- an integer point is not broken
pub point_is_unbroken : (program : Parts) (point : List ℤ) → IsIntegerPoint program point → point_breaks program point ≡ []
unfolding point_breaks
point_is_unbroken program point is =
    let one : length point ≡ length program.columns = is.one_per_column in
    let long : (length point == length program.columns) ≡ true = grind (arith, one) in
    let lengths : length_breaks program point ≡ [] = none_where (length point == length program.columns) _ long in
    let columns : per_item program.columns (column_breaks point) ≡ [] =
    per_item_of_none program.columns (column_breaks point)
    (λ j d inside. none_where _ _ (within_test (get_or program.columns j d) (value_at point j)
    (subst (λ col. IsWithin col (value_at point j)) (get_or_default program.columns j no_col d inside) (record { low = is.low j inside; high = is.high j inside })))) in
    let rows : per_item program.rows (row_breaks point) ≡ [] =
    per_item_of_none program.rows (row_breaks point)
    (λ i d inside. none_where _ _ (reaches_test (get_or program.rows i d).equal (get_or program.rows i d).rhs (terms_sum (get_or program.rows i d).terms (value_at point))
    (subst (λ (row : Row). Holds row (value_at point)) (get_or_default program.rows i no_row d inside) (is.rows i inside)))) in
    rw (lengths, columns, rows) refl
