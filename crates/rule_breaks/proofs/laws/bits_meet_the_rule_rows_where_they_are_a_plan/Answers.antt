use Rattle.rule_breaks.proofs.PlanRows.{rows_where_plan}
use Rattle.rule_breaks.proofs.laws.bits_meet_the_rule_rows_where_they_are_a_plan.Goals as goal

pub returns : goal.returns
returns c = rows_where_plan
