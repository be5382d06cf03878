use Rattle.point_model.proofs.PointsOnce.{bits_of_plan_decide, point_begins}
use Rattle.point_model.proofs.laws.points_begin_with_the_bits_of_their_plans.Goals as goal

pub returns-clause-begins : goal.returns-clause-begins
returns-clause-begins c = point_begins

pub returns-clause-decide : goal.returns-clause-decide
returns-clause-decide c = bits_of_plan_decide
