-- No row is broken exactly where the bits are those of an admissible plan.
use Rattle.std.proofs.Common.{◌≡◌, ℕ, ◌≤◌, List, None, sym, subst}
use Rattle.std.specs.Prelude.{◌↔◌, ℤ, Option}
use Rattle.ct_base.specs.declared.net.Net.{Net}
use Rattle.ct_base.specs.declared.plan.Plan.{Plan}
use Rattle.program_model.specs.Columns.{Bit, Column}
use Rattle.program_model.specs.Rows.{AllMeet}
use Rattle.program_model.specs.RuleRows.{rule_rows}
use Rattle.rule_breaks.specs.Bits.{AreBitsOfPlan, AreOffOrOn, BeginAsFixed, rule_rows_within}
use Rattle.rule_breaks.specs.Breaks.{first_break, value_in}
use Rattle.rule_breaks.specs.declared.breaks.RuleBreak.{RuleBreak}
use Rattle.rule_breaks.specs.inner.Parts.{AreBits}
use Rattle.rule_breaks.proofs.BitCounts.{bit_is}
use Rattle.rule_breaks.proofs.MetWhereNone.{met_none, none_met}
use Rattle.rule_breaks.proofs.PlanRows.{rows_where_plan}
use Rattle.rule_breaks.proofs.RowsWithin.{naming_rules}

none_where_plan : (net : Net) (bits : List ℤ) (steps : ℕ) → AreBits net bits → 1 ≤ steps → steps ≤ net.steps → BeginAsFixed net (value_in net bits) →
    (first_break (value_in net bits) steps 0 (rule_rows net) ≡ None) ↔ ((plan : Plan) × AreBitsOfPlan net steps (value_in net bits) plan)
none_where_plan net bits steps are some within fixed =
    let value : Column → ℤ = value_in net bits in
    let small : AreOffOrOn net steps value = λ t s letter before inside of. bit_is net bits (Bit t s letter) are in
    let same : _ ≡ rule_rows_within net steps = naming_rules net steps are.valid.each_signal within in
    let law : AllMeet value (rule_rows_within net steps) ↔ ((plan : Plan) × AreBitsOfPlan net steps value plan) = rows_where_plan net steps value are.valid.each_signal some small fixed in (
      λ none. law.0 (subst (AllMeet value) same (none_met value steps 0 (rule_rows net) none)),
      λ plan. met_none value steps 0 (rule_rows net) (subst (AllMeet value) (sym same) (law.1 plan)),
    )

-- the same of a result that is what is found
pub result_where_plan : (net : Net) (bits : List ℤ) (steps : ℕ) (result : Option RuleBreak) → AreBits net bits → 1 ≤ steps → steps ≤ net.steps → result ≡ first_break (value_in net bits) steps 0 (rule_rows net) →
    BeginAsFixed net (value_in net bits) → (result ≡ None) ↔ ((plan : Plan) × AreBitsOfPlan net steps (value_in net bits) plan)
result_where_plan net bits steps result are some within is fixed =
    subst (λ (found : Option RuleBreak). (found ≡ None) ↔ ((plan : Plan) × AreBitsOfPlan net steps (value_in net bits) plan)) (sym is) (none_where_plan net bits steps are some within fixed)
