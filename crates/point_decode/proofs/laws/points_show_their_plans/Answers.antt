use Rattle.program_model.specs.Points.{point_of}
use Rattle.point_decode.proofs.ShownLaws.{plan_is_shown, point_has_bits}
use Rattle.point_decode.proofs.laws.points_show_their_plans.Goals as goal

pub returns : goal.returns
returns c = λ net plan valid admissible. plan_is_shown net (point_of net plan.words) plan valid admissible (point_has_bits net plan)
