use Rattle.program_model.proofs.PointLaws.{objective-point}
use Rattle.program_model.proofs.laws.the_objective_of_a_point_is_the_delay.Goals as goal

pub returns : goal.returns
returns c = objective-point
