-- When a leaf is good in its box, for a bound on the delay (docs/certificate.md, "The leaves").
use Rattle.std.specs.Prelude.{◌≡◌, ℕ, ℤ, pos, ◌-ℤ◌, ◌*ℤ◌, ◌≤ℤ◌, ◌<ℤ◌, true, false, List, map, take}
use Rattle.ct_base.specs.declared.net.Net.{Net}
use Rattle.ct_base.specs.declared.plan.Letter.{Letter}
use Rattle.ct_base.specs.declared.plan.Plan.{Plan}
use Rattle.sparse_program.specs.Box.{Ranges}
use Rattle.traffic_model.specs.Delay.{delay_of, letters_at}
use Rattle.traffic_model.specs.Runs.{IsAdmissiblePlan}
use Rattle.program_model.specs.Columns.{Column, plan_columns}
use Rattle.program_model.specs.Numbers.{plan_count}
use Rattle.program_model.specs.Points.{program_of}
use Rattle.program_model.specs.Values.{value_of}
use Rattle.certificate_model.specs.Tree.{Leaf, Priced, Empty, Fixed}
use Rattle.certificate_model.specs.Value.{AreLawful, scale, value_of_pairs}

-- the least whole number that is at least a value of so many 1024ths
pub record IsCeiling (value number : ℤ) : Type 0 where
  pub enough : value ≤ℤ (pos scale *ℤ number)
  pub least : (pos scale *ℤ (number -ℤ pos 1)) <ℤ value

-- a priced leaf: its prices are lawful, and the bound that their value gives is not below the bound
pub record IsGoodPriced (net : Net) (bound : ℤ) (box : Ranges) (pairs : List (ℕ × ℤ)) : Type 0 where
  pub lawful : AreLawful (program_of net).rows pairs
  pub number : ℤ
  pub gives : IsCeiling (value_of_pairs (program_of net) true box pairs) number
  pub enough : bound ≤ℤ number

-- an empty leaf: its prices are lawful, and their value without costs is above 0, which no point in the box would allow
pub record IsGoodEmpty (net : Net) (box : Ranges) (pairs : List (ℕ × ℤ)) : Type 0 where
  pub lawful : AreLawful (program_of net).rows pairs
  pub above : pos 1 ≤ℤ value_of_pairs (program_of net) false box pairs

-- the bits of a plan, in the order of the plan columns
abbrev pub bits_of : Net → List (List Letter) → List ℤ
bits_of net words = map (λ (c : Column). pos (value_of net words c)) (plan_columns net)

-- the bounds of the plan columns leave one plan alone, which is admissible
pub record FixesPlan (net : Net) (box : Ranges) (plan : Plan) : Type 0 where
  pub admissible : IsAdmissiblePlan net plan
  pub lows : take (plan_count net) box.lows ≡ bits_of net plan.words
  pub highs : take (plan_count net) box.highs ≡ bits_of net plan.words

-- the delay of a plan, as a whole number
abbrev pub plan_delay : Net → Plan → ℤ
plan_delay net plan = pos (delay_of net.cells (letters_at plan.words) net.steps)

-- a fixed leaf: its box has one admissible plan, whose delay is not below the bound
pub record IsGoodFixed (net : Net) (bound : ℤ) (box : Ranges) : Type 0 where
  pub plan : Plan
  pub fixes : FixesPlan net box plan
  pub enough : bound ≤ℤ plan_delay net plan

-- a leaf is good in its box, for a bound on the delay
abbrev pub IsGoodLeaf : Net → ℤ → Ranges → Leaf → Type 0
IsGoodLeaf net bound box (Priced pairs) = IsGoodPriced net bound box pairs
IsGoodLeaf net bound box (Empty pairs) = IsGoodEmpty net box pairs
IsGoodLeaf net bound box Fixed = IsGoodFixed net bound box
