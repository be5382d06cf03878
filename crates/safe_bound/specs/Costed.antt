-- A box with the least that the costs of its columns come to in it.
use Rattle.std.specs.Prelude.{◌≡◌, ℤ, true, length}
use Rattle.listed.specs.Below.{whole_sum_below}
use Rattle.sparse_program.specs.Box.{Ranges}
use Rattle.sparse_program.specs.Program.{Parts}
use Rattle.certificate_model.specs.Value.{column_value, cost_counted}

-- a box, and a sum of costs in 1024ths of a unit of delay
pub record Costed : Type 0 where
  pub box : Ranges
  pub costs : ℤ

-- the least that the costs of all columns come to in a box
abbrev pub least_costs : Parts → Ranges → ℤ
least_costs program box = whole_sum_below (length program.columns) (λ j. column_value box (cost_counted program true j) j)

-- the box is one of a program's columns, and the sum is that of their costs
pub record IsCostedOf (program : Parts) (costed : Costed) : Type 0 where
  pub columns : length costed.box.lows ≡ length program.columns
  pub costs : costed.costs ≡ least_costs program costed.box
