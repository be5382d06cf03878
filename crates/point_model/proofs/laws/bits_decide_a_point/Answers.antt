use Rattle.point_model.proofs.PointsOnce.{points_once}
use Rattle.point_model.proofs.laws.bits_decide_a_point.Goals as goal

pub returns : goal.returns
returns c = points_once
