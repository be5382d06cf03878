use Rattle.program_model.proofs.PlanBits.{plans_meet_rule_rows}
use Rattle.program_model.proofs.laws.plans_meet_the_rule_rows.Goals as goal

pub returns : goal.returns
returns c = plans_meet_rule_rows
