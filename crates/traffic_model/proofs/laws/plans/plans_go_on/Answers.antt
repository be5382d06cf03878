use Rattle.traffic_model.proofs.PlansExist.{plan_goes_on}
use Rattle.traffic_model.proofs.laws.plans.plans_go_on.Goals as goal

pub returns : goal.returns
returns c = plan_goes_on
