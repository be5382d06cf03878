use Rattle.program_model.proofs.PointLaws.{points_are_integer}
use Rattle.program_model.proofs.laws.points_of_plans_are_integer_points.Goals as goal

pub returns : goal.returns
returns c = points_are_integer
