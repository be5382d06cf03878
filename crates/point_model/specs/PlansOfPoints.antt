-- The plan of an integer point, and the bits that a point begins with (docs/program.md, "Points").
use Rattle.std.specs.Prelude.{◌≡◌, ℤ, pos, List, map}
use Rattle.ct_base.specs.declared.net.Net.{Net}
use Rattle.ct_base.specs.declared.plan.Letter.{Letter}
use Rattle.ct_base.specs.declared.plan.Plan.{Plan}
use Rattle.traffic_model.specs.Runs.{IsAdmissiblePlan}
use Rattle.program_model.specs.Columns.{Column, plan_columns}
use Rattle.program_model.specs.Points.{point_of}
use Rattle.program_model.specs.Values.{value_of}

-- the plan is admissible, and the point is its point
pub record IsPlanOf (net : Net) (point : List ℤ) (plan : Plan) : Type 0 where
  pub admissible : IsAdmissiblePlan net plan
  pub is : point ≡ point_of net plan.words

-- the bits of the letters of a plan's words, in the order of the plan columns
abbrev pub plan_bits : Net → List (List Letter) → List ℤ
plan_bits net words = map (λ (c : Column). pos (value_of net words c)) (plan_columns net)
