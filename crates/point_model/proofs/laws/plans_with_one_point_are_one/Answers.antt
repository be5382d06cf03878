use Rattle.point_model.proofs.PointsOnce.{plans_once}
use Rattle.point_model.proofs.laws.plans_with_one_point_are_one.Goals as goal

pub returns : goal.returns
returns c = plans_once
