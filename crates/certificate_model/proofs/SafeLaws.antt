-- The bound of a good tree is safe: the point of each admissible plan comes to a leaf, and what makes that leaf good bounds its delay.
use Rattle.std.proofs.Common.{◌≡◌, ℕ, true, false, length, arith}
use Rattle.std.specs.Prelude.{ℤ, pos, ◌*ℤ◌, ◌≤ℤ◌}
use Rattle.std.proofs.lemmas.Int.{ints}
use Rattle.ct_base.specs.Validity.{IsValid}
use Rattle.ct_base.specs.declared.net.Net.{Net}
use Rattle.ct_base.specs.declared.plan.Plan.{Plan}
use Rattle.sparse_program.specs.Box.{Ranges}
use Rattle.traffic_model.specs.Runs.{IsAdmissiblePlan}
use Rattle.program_model.specs.Points.{IsIntegerPoint, objective, point_of, program_of, value_at}
use Rattle.program_model.proofs.PointLaws.{objective-point, points_are_integer}
use Rattle.certificate_model.specs.Certificates.{Certifies, root_of}
use Rattle.certificate_model.specs.Leaves.{IsCeiling, IsGoodLeaf, plan_delay}
use Rattle.certificate_model.specs.Tree.{Empty, Fixed, Leaf, Priced, Tree}
use Rattle.certificate_model.specs.Value.{IsInside, scale, value_of_pairs}
use Rattle.certificate_model.proofs.PlanLaws.{one_delay}
use Rattle.certificate_model.proofs.PointLaws.{point_inside, rows_there}
use Rattle.certificate_model.proofs.TreeLaws.{LeafAt, leaf_at, leaf_is_good}
use Rattle.certificate_model.proofs.ValueLaws.{value_of_pairs-below, value_of_pairs-empty}

-- the ceiling of a value is at most each whole number that the value is at most so many times
ceiling_below : (value number delay : ℤ) → IsCeiling value number → value ≤ℤ (pos scale *ℤ delay) → number ≤ℤ delay
ceiling_below value number delay gives below = omega (arith, ints, gives.least, below)

-- a value has one ceiling
pub one_ceiling : (value m n : ℤ) → IsCeiling value m → IsCeiling value n → m ≡ n
one_ceiling value m n first second = omega (arith, ints, first.enough, first.least, second.enough, second.least)

-- by the leaf that the point of a plan comes to
pub leaf_bounds : (net : Net) (bound : ℤ) (box : Ranges) (leaf : Leaf) (plan : Plan) → IsValid net → IsAdmissiblePlan net plan → IsGoodLeaf net bound box leaf →
    IsInside (length (program_of net).columns) box (value_at (point_of net plan.words)) → bound ≤ℤ plan_delay net plan
leaf_bounds net bound box (Priced pairs) plan valid admissible good inside =
    let is : IsIntegerPoint (program_of net) (point_of net plan.words) = points_are_integer net plan valid admissible in
    let below : value_of_pairs (program_of net) true box pairs ≤ℤ (pos scale *ℤ objective (program_of net) (point_of net plan.words)) =
    value_of_pairs-below (program_of net) box pairs (value_at (point_of net plan.words)) (rows_there net valid) good.lawful inside is.rows in
    let least : value_of_pairs (program_of net) true box pairs ≤ℤ (pos scale *ℤ plan_delay net plan) = rw (objective-point net plan.words) at below in
    let number : good.number ≤ℤ plan_delay net plan = ceiling_below (value_of_pairs (program_of net) true box pairs) good.number (plan_delay net plan) good.gives least in
    omega (arith, ints, good.enough, number)
leaf_bounds net bound box (Empty pairs) plan valid admissible good inside =
    let is : IsIntegerPoint (program_of net) (point_of net plan.words) = points_are_integer net plan valid admissible in
    let below : value_of_pairs (program_of net) false box pairs ≤ℤ pos 0 =
    value_of_pairs-empty (program_of net) box pairs (value_at (point_of net plan.words)) (rows_there net valid) good.lawful inside is.rows in
    absurd (omega (arith, ints, good.above, below))
leaf_bounds net bound box Fixed plan valid admissible good inside =
    let same : plan_delay net plan ≡ plan_delay net good.plan = one_delay net box plan good.plan valid admissible good.fixes inside in
    rw same good.enough

-- each admissible plan
pub bounds_are_safe : (net : Net) (bound : ℤ) (tree : Tree) (plan : Plan) → IsValid net → Certifies net bound tree → IsAdmissiblePlan net plan → bound ≤ℤ plan_delay net plan
bounds_are_safe net bound tree plan valid certifies admissible =
    let n : ℕ = length (program_of net).columns in
    let x : ℕ → ℤ = value_at (point_of net plan.words) in
    let at : LeafAt n (root_of net) tree x =
    leaf_at n (root_of net) tree x (point_inside net (point_of net plan.words) (points_are_integer net plan valid admissible)) in
    let good : IsGoodLeaf net bound at.inner at.leaf = leaf_is_good (IsGoodLeaf net bound) (root_of net) tree at.inner at.leaf certifies at.of in
    leaf_bounds net bound at.inner at.leaf plan valid admissible good at.inside
