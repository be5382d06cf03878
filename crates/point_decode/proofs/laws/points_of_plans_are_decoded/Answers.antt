use Rattle.std.proofs.Common.{◌≡◌, List, [], Ok, ap, ◌∙◌}
use Rattle.refusals.specs.Faults.{unless}
use Rattle.ct_base.specs.declared.plan.Plan.{Plan}
use Rattle.traffic_model.specs.Delay.{delay_of, letters_at}
use Rattle.program_model.specs.Points.{point_of, program_of}
use Rattle.program_model.proofs.PointLaws.{points_are_integer}
use Rattle.point_decode.specs.Breaks.{point_breaks}
use Rattle.point_decode.specs.Decoded.{decoded, plan_shown, shown_with_delay}
use Rattle.point_decode.specs.declared.broken.Broken.{Broken}
use Rattle.point_decode.proofs.BreakLaws.{point_is_unbroken}
use Rattle.point_decode.proofs.ShownLaws.{plan_is_shown, point_has_bits}
use Rattle.point_decode.proofs.laws.points_of_plans_are_decoded.Goals as goal

pub returns : goal.returns
unfolding decoded
returns c = λ net plan valid admissible.
    let none : point_breaks (program_of net) (point_of net plan.words) ≡ [] = point_is_unbroken (program_of net) (point_of net plan.words) (points_are_integer net plan valid admissible) in
    let same : plan_shown net (point_of net plan.words) ≡ plan = plan_is_shown net (point_of net plan.words) plan valid admissible (point_has_bits net plan) in
    ap (λ (breaks : List Broken). unless breaks (shown_with_delay net (point_of net plan.words))) none
    ∙ ap (λ (plan : Plan). Ok (record { plan = plan; delay = delay_of net.cells (letters_at plan.words) net.steps })) same
