use Rattle.point_model.proofs.PointsOnce.{plan_of_point}
use Rattle.point_model.proofs.laws.points_are_points_of_plans.Goals as goal

pub returns : goal.returns
returns c = plan_of_point
