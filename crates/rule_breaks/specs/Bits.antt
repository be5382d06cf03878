-- Values of the bits of a network, the rule rows of its first steps, and the plans of so many steps whose bits they are
-- (docs/program.md, "Rule rows").
use Rattle.std.specs.Prelude.{◌≡◌, ◌⊎◌, ℕ, ◌<◌, ℤ, pos, List, length}
use Rattle.listed.specs.Below.{join_below}
use Rattle.ct_base.specs.Access.{signal_of}
use Rattle.ct_base.specs.declared.net.Net.{Net}
use Rattle.ct_base.specs.declared.plan.Letter.{Letter}
use Rattle.ct_base.specs.declared.plan.Plan.{Plan}
use Rattle.traffic_model.specs.Runs.{IsAdmissiblePlanOfLength}
use Rattle.program_model.specs.Columns.{Bit, Column}
use Rattle.program_model.specs.Existence.{IsLetterOf}
use Rattle.program_model.specs.Rows.{SumRow}
use Rattle.program_model.specs.RuleRows.{rule_rows_at}
use Rattle.program_model.specs.Values.{least_of, value_of}

-- each bit of the first so many steps is 0 or 1
abbrev pub AreOffOrOn : Net → ℕ → (Column → ℤ) → Type 0
AreOffOrOn net steps value =
    (t s : ℕ) (letter : Letter) → t < steps → s < length net.signals → IsLetterOf (signal_of net.signals s) letter → (value (Bit t s letter) ≡ pos 0) ⊎ (value (Bit t s letter) ≡ pos 1)

-- the bits of step 0 are the fixed ones
abbrev pub BeginAsFixed : Net → (Column → ℤ) → Type 0
BeginAsFixed net value = (s : ℕ) (letter : Letter) → s < length net.signals → IsLetterOf (signal_of net.signals s) letter → value (Bit 0 s letter) ≡ pos (least_of net (Bit 0 s letter))

-- the plan has one admissible word of so many letters for each signal, and the values are the bits of these letters
pub record AreBitsOfPlan (net : Net) (steps : ℕ) (value : Column → ℤ) (plan : Plan) : Type 0 where
  pub admissible : IsAdmissiblePlanOfLength net steps plan
  pub bits : (t s : ℕ) (letter : Letter) → t < steps → s < length net.signals → IsLetterOf (signal_of net.signals s) letter → value (Bit t s letter) ≡ pos (value_of net plan.words (Bit t s letter))

-- the rule rows of a horizon of so many steps
abbrev pub rule_rows_within : Net → ℕ → List (SumRow Column)
rule_rows_within net steps = join_below (length net.signals) (λ s. join_below steps (rule_rows_at (signal_of net.signals s) steps s))
