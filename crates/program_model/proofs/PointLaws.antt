-- The point of an admissible plan is an integer point of the network's program, and its objective is the plan's delay.
use Rattle.std.proofs.Common.{◌≡◌, ℕ, ◌<◌, ◌≤◌, List, [], ◌∷◌, length, get_or, refl, ap, subst, ◌∙◌, sym, arith}
use Rattle.std.specs.Prelude.{true, ℤ, pos, ◌+ℤ◌, ◌*ℤ◌}
use Rattle.std.proofs.lemmas.Int.{ints}
use Rattle.std.proofs.lemmas.List.{get_or-map, length-map}
use Rattle.listed.specs.Below.{whole_sum_below}
use Rattle.listed.proofs.WholeSums.{whole_sum_below-same}
use Rattle.ct_base.specs.Validity.{IsValid}
use Rattle.ct_base.specs.declared.net.Net.{Net}
use Rattle.ct_base.specs.declared.plan.Letter.{Letter}
use Rattle.ct_base.specs.declared.plan.Plan.{Plan}
use Rattle.sparse_program.specs.Program.{Holds, col_of, no_col, no_row, row_of}
use Rattle.sparse_program.specs.declared.column.Col.{Col}
use Rattle.sparse_program.specs.declared.row.Row.{Row}
use Rattle.traffic_model.specs.Delay.{delay_of, letters_at}
use Rattle.traffic_model.specs.Runs.{IsAdmissiblePlan}
use Rattle.program_model.specs.Columns.{Column, Units, columns}
use Rattle.program_model.specs.Existence.{IsColumn}
use Rattle.program_model.specs.FlowRows.{flow_rows}
use Rattle.program_model.specs.Numbers.{number_of}
use Rattle.program_model.specs.Points.{IsIntegerPoint, col, objective, point_of, program_of, rows, value_at}
use Rattle.program_model.specs.RuleRows.{rule_rows}
use Rattle.program_model.specs.Rows.{AllMeet, Compares, SumRow, sum_at, terms_at}
use Rattle.program_model.specs.Sparse.{sparse}
use Rattle.program_model.specs.Values.{cost_of, least_of, most_of, value_of}
use Rattle.program_model.proofs.BoundLaws.{value_within}
use Rattle.program_model.proofs.ColumnLaws.{Each, Each-append, Each-at, columns_are}
use Rattle.program_model.proofs.FlowColumns.{flow_rows_name}
use Rattle.program_model.proofs.ObjectiveLaws.{columns_cost_the_delay, cost_at, sum_over-places}
use Rattle.program_model.proofs.PlaceLaws.{column_stands}
use Rattle.program_model.proofs.PlanBits.{plans_meet_rule_rows}
use Rattle.program_model.proofs.PlanFloors.{counted}
use Rattle.program_model.proofs.PlanRows.{plans_meet_flow_rows}
use Rattle.program_model.proofs.RowColumns.{RowNames, rule_rows_name}
use Rattle.program_model.proofs.SparseLaws.{holds-sparse}
use Rattle.program_model.proofs.SumLaws.{AllMeet-append}

-- what stands for a column that is not there
abbrev no_column : Column
no_column = Units 0 0

-- a place of the point counts the column at that place
pub value_at-place : (net : Net) (words : List (List Letter)) (j : ℕ) → j < length (columns net) → value_at (point_of net words) j ≡ counted net words (get_or (columns net) j no_column)
unfolding point_of
value_at-place net words j inside = get_or-map (counted net words) (columns net) j no_column (pos 0) inside

-- the number of a column counts it
pub value_at-number : (net : Net) (words : List (List Letter)) (c : Column) → IsColumn net c → value_at (point_of net words) (number_of net c) ≡ counted net words c
value_at-number net words c is =
    let there = column_stands net c no_column is in
    value_at-place net words (number_of net c) there.0 ∙ ap (counted net words) there.1

-- a value for each column
length_of_point : (net : Net) (words : List (List Letter)) → length (point_of net words) ≡ length (columns net)
unfolding point_of
length_of_point net words = length-map (columns net) (counted net words)

-- a sum that names columns of the network alone
terms_of_point : (net : Net) (words : List (List Letter)) (terms : List (Column × ℤ)) → Each (λ (term : Column × ℤ). IsColumn net term.0) terms →
    terms_at (λ c. value_at (point_of net words) (number_of net c)) terms ≡ terms_at (counted net words) terms
terms_of_point net words [] names = refl
terms_of_point net words (term ∷ terms) names =
    ap (λ (z : ℤ). term.1 *ℤ z +ℤ terms_at (λ c. value_at (point_of net words) (number_of net c)) terms) (value_at-number net words term.0 names.0)
    ∙ ap (λ (z : ℤ). term.1 *ℤ counted net words term.0 +ℤ z) (terms_of_point net words terms names.1)

-- rows that are met by what the columns count hold at the point
rows_hold : (net : Net) (words : List (List Letter)) (some : List (SumRow Column)) → AllMeet (counted net words) some → Each (RowNames net) some →
    Each (λ (row : SumRow Column). Holds (sparse (number_of net) row) (value_at (point_of net words))) some
rows_hold net words [] met names = tt
rows_hold net words (row ∷ some) met names =
    let same : sum_at (λ c. value_at (point_of net words) (number_of net c)) row.sum ≡ sum_at (counted net words) row.sum =
    ap (λ (z : ℤ). row.sum.constant +ℤ z) (terms_of_point net words row.sum.terms names.0) in (
      (holds-sparse (value_at (point_of net words)) (number_of net) row).1 (subst (λ (z : ℤ). Compares row.equal z row.rhs) (sym same) met.0),
      rows_hold net words some met.1 names.1,
    )

-- the column of the program at a place
program_col : (net : Net) (j : ℕ) → j < length (columns net) → col_of (program_of net).columns j ≡ col net (get_or (columns net) j no_column)
unfolding program_of
program_col net j inside = get_or-map (col net) (columns net) j no_column no_col inside

-- as many columns
program_cols : (net : Net) → length (program_of net).columns ≡ length (columns net)
unfolding program_of
program_cols net = length-map (columns net) (col net)

-- what stands for a row that is not there
abbrev no_sum_row : SumRow Column
no_sum_row = record { equal = true; rhs = pos 0; sum = record { constant = pos 0; terms = [] } }

-- all rows hold
all_hold : (net : Net) (plan : Plan) → IsValid net → IsAdmissiblePlan net plan → (i : ℕ) → i < length (program_of net).rows → Holds (row_of (program_of net).rows i) (value_at (point_of net plan.words))
unfolding program_of
all_hold net plan valid admissible i inside =
    let each : Each (λ (row : SumRow Column). Holds (sparse (number_of net) row) (value_at (point_of net plan.words))) (rows net) =
    rows_hold net plan.words (rows net)
    (AllMeet-append (counted net plan.words) (rule_rows net) (flow_rows net) (plans_meet_rule_rows net plan valid admissible) (plans_meet_flow_rows net plan valid admissible))
    (Each-append (RowNames net) (rule_rows net) (flow_rows net) (rule_rows_name net) (flow_rows_name net valid)) in
    let within : i < length (rows net) = omega (arith, inside, length-map (rows net) (sparse (number_of net))) in
    subst (λ (row : Row). Holds row (value_at (point_of net plan.words))) (sym (get_or-map (sparse (number_of net)) (rows net) i no_sum_row no_row within))
    (Each-at (λ (row : SumRow Column). Holds (sparse (number_of net) row) (value_at (point_of net plan.words))) (rows net) i no_sum_row each within)

-- the point of an admissible plan is an integer point
pub points_are_integer : (net : Net) (plan : Plan) → IsValid net → IsAdmissiblePlan net plan → IsIntegerPoint (program_of net) (point_of net plan.words)
points_are_integer net plan valid admissible =
    let bounds : (j : ℕ) → j < length (columns net) → (least_of net (get_or (columns net) j no_column) ≤ value_of net plan.words (get_or (columns net) j no_column))
    × (value_of net plan.words (get_or (columns net) j no_column) ≤ most_of net (get_or (columns net) j no_column)) =
    λ j inside. value_within net plan (get_or (columns net) j no_column) valid admissible (Each-at (IsColumn net) (columns net) j no_column (columns_are net) inside) in
    record {
      one_per_column = length_of_point net plan.words ∙ sym (program_cols net);
      low = λ j inside.
          let there : j < length (columns net) = omega (arith, inside, program_cols net) in
          rw (program_col net j there, value_at-place net plan.words j there) (omega (arith, ints, (bounds j there).0));
      high = λ j inside.
          let there : j < length (columns net) = omega (arith, inside, program_cols net) in
          rw (program_col net j there, value_at-place net plan.words j there) (omega (arith, ints, (bounds j there).1));
      rows = all_hold net plan valid admissible;
    }

-- and its objective is the plan's delay
pub objective-point : (net : Net) (words : List (List Letter)) → objective (program_of net) (point_of net words) ≡ pos (delay_of net.cells (letters_at words) net.steps)
objective-point net words =
    ap (λ n. whole_sum_below n (λ j. (col_of (program_of net).columns j).cost *ℤ value_at (point_of net words) j)) (program_cols net)
    ∙ whole_sum_below-same (length (columns net)) (λ j. (col_of (program_of net).columns j).cost *ℤ value_at (point_of net words) j) (λ j. cost_at net words (get_or (columns net) j no_column))
    (λ j inside. ap (λ (c : Col). c.cost *ℤ value_at (point_of net words) j) (program_col net j inside)
    ∙ ap (λ (z : ℤ). cost_of net (get_or (columns net) j no_column) *ℤ z) (value_at-place net words j inside))
    ∙ sum_over-places (cost_at net words) (columns net) no_column
    ∙ columns_cost_the_delay net words
