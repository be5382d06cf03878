use Rattle.std.proofs.Common.{◌≡◌, List, ap, subst, sym, ◌∙◌}
use Rattle.std.specs.Prelude.{ℤ}
use Rattle.program_model.specs.Points.{IsIntegerPoint, objective, point_of, program_of}
use Rattle.plan_point.proofs.EncodingLaws.{point_added}
use Rattle.plan_point.proofs.encoding.encode.Goals as goal

point_is : (c : goal.After-drop-layout-4) → c.of.result ≡ point_of c.args.net.now c.args.plan.now.words
point_is c =
    c.of.ensures
    ∙ point_added c.args.net.now c.args.plan.now.words c.new-values.result.items c.push_bits.new.values.items c.push_steps.new.values.items c.new-values.ensures.items
    c.in_ok-push_bits.ensures c.in_ok-push_steps.ensures

pub returns-clause-value : goal.returns-clause-value
returns-clause-value c = point_is c

pub returns-clause-integer : goal.returns-clause-integer
returns-clause-integer c =
    subst (λ (point : List ℤ). IsIntegerPoint (program_of c.args.net.now) point) (sym (point_is c))
    (c.points_of_plans_are_integer_points.ensures c.args.net.now c.args.plan.now c.requires.valid c.requires.admissible)

pub returns-clause-objective : goal.returns-clause-objective
returns-clause-objective c =
    ap (λ (point : List ℤ). objective (program_of c.args.net.now) point) (point_is c)
    ∙ c.the_objective_of_a_point_is_the_delay.ensures c.args.net.now c.args.plan.now.words
