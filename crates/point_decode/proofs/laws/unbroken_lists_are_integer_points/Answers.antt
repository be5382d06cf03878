use Rattle.point_decode.proofs.BreakLaws.{point_is_unbroken, unbroken_is_point}
use Rattle.point_decode.proofs.laws.unbroken_lists_are_integer_points.Goals as goal

pub returns : goal.returns
returns c = λ program point. (unbroken_is_point program point, point_is_unbroken program point)
