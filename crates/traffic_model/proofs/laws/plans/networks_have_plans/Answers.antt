use Rattle.traffic_model.proofs.PlansExist.{plan_exists}
use Rattle.traffic_model.proofs.laws.plans.networks_have_plans.Goals as goal

pub returns : goal.returns
returns c = record {
  whole = λ net valid. plan_exists net net.steps valid;
  of_length = plan_exists;
}
