use Rattle.traffic_model.proofs.FrontLaws.{front-admissible}
use Rattle.traffic_model.proofs.laws.fronts.fronts_of_plans_are_admissible.Goals as goal

pub returns : goal.returns
returns c = front-admissible
