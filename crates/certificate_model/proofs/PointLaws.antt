-- The point of a plan: it lies in the box of all points, and meets rows whose terms name columns that exist.
use Rattle.std.proofs.Common.{◌≡◌, inl, inr, ℕ, ◌<◌, true, List, [], ◌∷◌, length, map, get_or, All, sym, subst, arith}
use Rattle.std.specs.Prelude.{ℤ, pos, ◌+ℤ◌, ◌==◌, nat_lt, not, unsigned_abs}
use Rattle.std.proofs.lemmas.Bool.{cases_Bool}
use Rattle.std.proofs.lemmas.List.{get_or-map, length-map}
use Rattle.std.proofs.lemmas.List.Elements.{All-cons, All-filter, All-head, All-nil, All-tail}
use Rattle.ct_base.specs.Validity.{IsValid}
use Rattle.ct_base.specs.declared.net.Net.{Net}
use Rattle.sparse_program.specs.Box.{high_of, low_of}
use Rattle.sparse_program.specs.Program.{no_col, no_row}
use Rattle.sparse_program.specs.Terms.{inserted, rising}
use Rattle.sparse_program.specs.declared.column.Col.{Col}
use Rattle.sparse_program.specs.declared.row.Row.{Row}
use Rattle.program_model.specs.Columns.{Column, Units, columns}
use Rattle.program_model.specs.Existence.{IsColumn}
use Rattle.program_model.specs.FlowRows.{flow_rows}
use Rattle.program_model.specs.Numbers.{number_of}
use Rattle.program_model.specs.Points.{IsIntegerPoint, col, program_of, rows, value_at}
use Rattle.program_model.specs.RuleRows.{rule_rows}
use Rattle.program_model.specs.Rows.{SumRow}
use Rattle.program_model.specs.Sparse.{by_number, sparse}
use Rattle.program_model.proofs.ColumnLaws.{Each, Each-append, Each-at}
use Rattle.program_model.proofs.FlowColumns.{flow_rows_name}
use Rattle.program_model.proofs.PlaceLaws.{column_stands}
use Rattle.program_model.proofs.RowColumns.{RowNames, rule_rows_name}
use Rattle.certificate_model.specs.Certificates.{root_of}
use Rattle.certificate_model.specs.Value.{IsInside}
use Rattle.certificate_model.proofs.ValueLaws.{TermsThere}

-- ---- rows name columns that exist

-- the number of a term is below a count
abbrev Below : ℕ → ℕ × ℤ → Type 0
Below count term = term.0 < count

-- a term more at its place
inserted_below : (count : ℕ) (terms : List (ℕ × ℤ)) (term : ℕ × ℤ) → All (Below count) terms → Below count term → All (Below count) (inserted terms term)
inserted_below count [] term there here = All-cons (Below count) term [] here there
inserted_below count (other ∷ terms) term there here =
    let first : Below count other = All-head (Below count) other terms there in
    let rest : All (Below count) terms = All-tail (Below count) other terms there in
    elim (cases_Bool (nat_lt term.0 other.0)) [
      | inl before ↦ rw before (All-cons (Below count) term (other ∷ terms) here there)
      | inr past ↦
          elim (cases_Bool (other.0 == term.0)) [
            | inl same ↦ rw (past, same) (All-cons (Below count) (other.0, other.1 +ℤ term.1) terms first rest)
            | inr apart ↦ rw (past, apart) (All-cons (Below count) other (inserted terms term) first (inserted_below count terms term rest here))
          ]
    ]

-- all terms at their places
rising_below : (count : ℕ) (terms : List (ℕ × ℤ)) → All (Below count) terms → All (Below count) (rising terms)
rising_below count [] there = there
rising_below count (term ∷ terms) there =
    inserted_below count (rising terms) term (rising_below count terms (All-tail (Below count) term terms there)) (All-head (Below count) term terms there)

-- the numbers of columns of the network
by_number_below : (net : Net) (terms : List (Column × ℤ)) → Each (λ (term : Column × ℤ). IsColumn net term.0) terms → All (Below (length (columns net))) (by_number (number_of net) terms)
by_number_below net [] names = All-nil (Below (length (columns net)))
by_number_below net (term ∷ terms) names =
    All-cons (Below (length (columns net))) (number_of net term.0, term.1) (by_number (number_of net) terms) (column_stands net term.0 (Units 0 0) names.0).0 (by_number_below net terms names.1)

-- a row as the program holds it
sparse_below : (net : Net) (row : SumRow Column) → RowNames net row → All (Below (length (columns net))) (sparse (number_of net) row).terms
sparse_below net row names =
    All-filter (λ (term : ℕ × ℤ). not (unsigned_abs term.1 == 0)) (Below (length (columns net))) (rising (by_number (number_of net) row.sum.terms))
    (rising_below (length (columns net)) (by_number (number_of net) row.sum.terms) (by_number_below net row.sum.terms names))

-- what stands for a row that is not there
abbrev no_sum_row : SumRow Column
no_sum_row = record { equal = true; rhs = pos 0; sum = record { constant = pos 0; terms = [] } }

-- as many columns
pub columns_there : (net : Net) → length (program_of net).columns ≡ length (columns net)
unfolding program_of
columns_there net = length-map (columns net) (col net)

-- all rows of the program
pub rows_there : (net : Net) → IsValid net → TermsThere (length (program_of net).columns) (program_of net).rows
unfolding program_of
rows_there net valid = λ i inside.
    let names : Each (RowNames net) (rows net) = Each-append (RowNames net) (rule_rows net) (flow_rows net) (rule_rows_name net) (flow_rows_name net valid) in
    let within : i < length (rows net) = omega (arith, inside, length-map (rows net) (sparse (number_of net))) in
    let of : All (Below (length (columns net))) (sparse (number_of net) (get_or (rows net) i no_sum_row)).terms = sparse_below net (get_or (rows net) i no_sum_row) (Each-at (RowNames net) (rows net) i no_sum_row names within) in
    subst (λ (row : Row). All (Below (length (map (col net) (columns net)))) row.terms) (sym (get_or-map (sparse (number_of net)) (rows net) i no_sum_row no_row within))
    (subst (λ (n : ℕ). All (Below n) (sparse (number_of net) (get_or (rows net) i no_sum_row)).terms) (sym (length-map (columns net) (col net))) of)

-- ---- the box of all points

-- an integer point lies in it
pub point_inside : (net : Net) (point : List ℤ) → IsIntegerPoint (program_of net) point → IsInside (length (program_of net).columns) (root_of net) (value_at point)
point_inside net point is = λ j there.
    let low : low_of (root_of net) j ≡ (get_or (program_of net).columns j no_col).low = get_or-map (λ (c : Col). c.low) (program_of net).columns j no_col (pos 0) there in
    let high : high_of (root_of net) j ≡ (get_or (program_of net).columns j no_col).high = get_or-map (λ (c : Col). c.high) (program_of net).columns j no_col (pos 0) there in
    (rw low (is.low j there), rw high (is.high j there))
