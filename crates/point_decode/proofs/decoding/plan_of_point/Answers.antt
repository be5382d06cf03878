use Rattle.std.proofs.Common.{◌≡◌, ℕ, Ok, IfSome, List, length, take, ap, sym, subst, ◌∙◌, arith}
use Rattle.std.specs.Prelude.{ℤ}
use Rattle.std.proofs.lemmas.List.{length-take}
use Rattle.ct_base.specs.declared.net.Net.{Net}
use Rattle.ct_base.specs.declared.plan.Plan.{Plan}
use Rattle.sparse_program.specs.Program.{Parts}
use Rattle.traffic_model.specs.Runs.{IsAdmissiblePlan}
use Rattle.program_model.specs.Numbers.{plan_count}
use Rattle.program_model.specs.Points.{program_of}
use Rattle.certificate_model.specs.Leaves.{bits_of}
use Rattle.point_model.specs.PlansOfPoints.{IsPlanOf}
use Rattle.point_decode.proofs.ShownLaws.{plan_of_bits_is_of, plan_of_bits_is_shown, point_begins_with_bits}
use Rattle.point_decode.proofs.decoding.plan_of_point.Goals as goal

-- the plan columns of a network's program
plan_cols-count : (net : Net) (program : Parts) (count : ℕ) → count ≡ program.plan_cols → program ≡ program_of net → count ≡ plan_count net
unfolding program_of
plan_cols-count net program count is of = is ∙ ap (λ (parts : Parts). parts.plan_cols) of

-- the values of the plan columns are as many as those are
front_is : (net : Net) (program : Parts) (count : ℕ) (point : List ℤ) → count ≡ program.plan_cols → program ≡ program_of net → take (plan_count net) point ≡ take count point
front_is net program count point is of = ap (λ (n : ℕ). take n point) (sym (plan_cols-count net program count is of))

pub plan_of_bits-requires-clause-columns : goal.plan_of_bits-requires-clause-columns
plan_of_bits-requires-clause-columns c =
    let count : c.plan_cols.result ≡ plan_count c.args.net.now = plan_cols-count c.args.net.now c.args.program.now c.plan_cols.result c.plan_cols.ensures.value c.requires.program in
    let columns : length c.args.program.now.columns ≡ length (program_of c.args.net.now).columns = ap (λ (parts : Parts). length parts.columns) c.requires.program in
    omega (arith, count, columns, length-take c.plan_cols.result c.args.point.now)

pub unreachable-requires : goal.unreachable-requires
unreachable-requires c =
    let net = c.args.net.now in
    let point = c.args.point.now in
    let found : (plan : Plan) × IsPlanOf net point plan = c.points_are_points_of_plans.ensures net point c.requires.valid c.requires.integer in
    c.plan_of_bits.ensures.none (c.in_ok-plan.was ∙ ap Ok c.in-None.is) found.0 found.1.admissible
    (sym (front_is net c.args.program.now c.plan_cols.result point c.plan_cols.ensures.value c.requires.program) ∙ point_begins_with_bits net point found.0 found.1)

pub returns-clause-shown : goal.returns-clause-shown
returns-clause-shown c =
    let net = c.args.net.now in
    let point = c.args.point.now in
    plan_of_bits_is_shown net point c.in-Some.plan c.requires.valid
    (subst (λ found. IfSome found (IsAdmissiblePlan net)) c.in-Some.is c.in_ok-plan.ensures.admissible)
    (front_is net c.args.program.now c.plan_cols.result point c.plan_cols.ensures.value c.requires.program
    ∙ subst (λ found. IfSome found (λ plan. take c.plan_cols.result point ≡ bits_of net plan.words)) c.in-Some.is c.in_ok-plan.ensures.bits)

pub returns-clause-of : goal.returns-clause-of
returns-clause-of c =
    let net = c.args.net.now in
    let point = c.args.point.now in
    let found : (plan : Plan) × IsPlanOf net point plan = c.points_are_points_of_plans.ensures net point c.requires.valid c.requires.integer in
    plan_of_bits_is_of net point c.in-Some.plan found.0 c.requires.valid
    (subst (λ found. IfSome found (IsAdmissiblePlan net)) c.in-Some.is c.in_ok-plan.ensures.admissible)
    (front_is net c.args.program.now c.plan_cols.result point c.plan_cols.ensures.value c.requires.program
    ∙ subst (λ found. IfSome found (λ plan. take c.plan_cols.result point ≡ bits_of net plan.words)) c.in-Some.is c.in_ok-plan.ensures.bits) found.1
