-- Plans with their delays, and the plan that a point has (docs/search.md, "Plans").
use Rattle.std.specs.Prelude.{◌≡◌, ℕ, ℤ, pos, List, slice_index_or}
use Rattle.listed.specs.Below.{table_of}
use Rattle.ct_base.specs.declared.net.Net.{Net}
use Rattle.ct_base.specs.declared.plan.Plan.{Plan}
use Rattle.traffic_model.specs.Delay.{delay_of, letters_at}
use Rattle.traffic_model.specs.Runs.{IsAdmissiblePlan}
use Rattle.program_model.specs.Numbers.{plan_count}
use Rattle.plan_rounding.specs.declared.replays.ReplayedPlan.{ReplayedPlan}

-- the delay of a plan over the whole horizon
abbrev pub delay_in : Net → Plan → ℕ
delay_in net plan = delay_of net.cells (letters_at plan.words) net.steps

-- the plan is admissible, and the delay is its own
pub record IsReplayed (net : Net) (found : ReplayedPlan) : Type 0 where
  pub admissible : IsAdmissiblePlan net found.plan
  pub delay : found.delay ≡ delay_in net found.plan

-- the values of the plan columns in a point; a value that is missing is 0
abbrev pub plan_values : Net → List ℤ → List ℤ
plan_values net point = table_of (plan_count net) (λ c. slice_index_or point c (pos 0))
