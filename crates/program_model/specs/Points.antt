-- The program of a network, integer points, and the point of a plan (docs/program.md, "Points").
use Rattle.std.specs.Prelude.{◌≡◌, ℕ, ◌<◌, ℤ, pos, ◌*ℤ◌, ◌≤ℤ◌, List, ◌++◌, length, map, slice_index_or}
use Rattle.listed.specs.Below.{whole_sum_below}
use Rattle.ct_base.specs.declared.net.Net.{Net}
use Rattle.ct_base.specs.declared.plan.Letter.{Letter}
use Rattle.sparse_program.specs.Program.{Holds, Parts, col_of, row_of}
use Rattle.sparse_program.specs.declared.column.Col.{Col}
use Rattle.program_model.specs.Columns.{Column, columns}
use Rattle.program_model.specs.FlowRows.{flow_rows}
use Rattle.program_model.specs.Numbers.{number_of, plan_count}
use Rattle.program_model.specs.Rows.{SumRow}
use Rattle.program_model.specs.RuleRows.{rule_rows}
use Rattle.program_model.specs.Sparse.{sparse}
use Rattle.program_model.specs.Values.{cost_of, least_of, most_of, value_of}

-- a column as the program holds it
abbrev pub col : Net → Column → Col
col net c = record { low = pos (least_of net c); high = pos (most_of net c); cost = cost_of net c }

-- all rows: the rule rows, and then the flow rows
abbrev pub rows : Net → List (SumRow Column)
rows net = rule_rows net ++ flow_rows net

-- the program of a network
unfoldable pub program_of : Net → Parts
program_of net = record { columns = map (col net) (columns net); rows = map (sparse (number_of net)) (rows net); plan_cols = plan_count net }

-- the value of a column; 0 where there is none
abbrev pub value_at : List ℤ → ℕ → ℤ
value_at point j = slice_index_or point j (pos 0)

-- a whole number for each column, within its bounds, that meet all rows
pub record IsIntegerPoint (program : Parts) (point : List ℤ) : Type 0 where
  pub one_per_column : length point ≡ length program.columns
  pub low : (j : ℕ) → j < length program.columns → (col_of program.columns j).low ≤ℤ value_at point j
  pub high : (j : ℕ) → j < length program.columns → value_at point j ≤ℤ (col_of program.columns j).high
  pub rows : (i : ℕ) → i < length program.rows → Holds (row_of program.rows i) (value_at point)

-- what a point costs
abbrev pub objective : Parts → List ℤ → ℤ
objective program point = whole_sum_below (length program.columns) (λ j. (col_of program.columns j).cost *ℤ value_at point j)

-- the point of a plan: what each column counts under its words
unfoldable pub point_of : Net → List (List Letter) → List ℤ
point_of net words = map (λ (c : Column). pos (value_of net words c)) (columns net)
