-- What the numbers that leaves give say of a tree.
use Rattle.std.proofs.Common.{inl, inr, ℕ, length, refl, arith}
use Rattle.std.specs.Prelude.{ℤ, pos, ◌+ℤ◌, ◌≤ℤ◌, true}
use Rattle.std.proofs.lemmas.Int.{ints}
use Rattle.ct_base.specs.Validity.{IsValid}
use Rattle.ct_base.specs.declared.net.Net.{Net}
use Rattle.ct_base.specs.declared.plan.Plan.{Plan}
use Rattle.sparse_program.specs.Box.{Ranges}
use Rattle.traffic_model.specs.Runs.{IsAdmissiblePlan}
use Rattle.program_model.specs.Points.{point_of, program_of, value_at}
use Rattle.program_model.proofs.PointLaws.{points_are_integer}
use Rattle.certificate_model.specs.Certificates.{Certifies, root_of}
use Rattle.certificate_model.specs.Leaves.{IsGoodLeaf, plan_delay}
use Rattle.certificate_model.specs.Reasons.{ceiling}
use Rattle.certificate_model.specs.Tree.{AtLeaf, Empty, Fixed, IsGood, IsLeafOf, Leaf, Priced, Split, Tree, left_of, right_of}
use Rattle.certificate_model.specs.Value.{IsInside, value_of_pairs}
use Rattle.certificate_model.proofs.PointLaws.{point_inside}
use Rattle.certificate_model.proofs.ReasonLaws.{ceiling_is}
use Rattle.certificate_model.proofs.SafeLaws.{leaf_bounds}
use Rattle.certificate_model.proofs.TreeLaws.{LeafAt, leaf_at, leaf_is_good}
use Rattle.search_model.specs.LeafNumbers.{GivesNumber, IsGivenIn, IsLawfulLeaf, IsLeastGiven}

-- a lawful leaf is good for each bound that is not above its number
pub good_for_less : (net : Net) (bound : ℤ) (box : Ranges) (leaf : Leaf) → IsLawfulLeaf net box leaf → ((number : ℤ) → GivesNumber net box leaf number → bound ≤ℤ number) →
    IsGoodLeaf net bound box leaf
good_for_less net bound box (Priced pairs) lawful below =
    let value : ℤ = value_of_pairs (program_of net) true box pairs in
    record { lawful = lawful; number = ceiling value; gives = ceiling_is value; enough = below (ceiling value) (ceiling_is value) }
good_for_less net bound box (Empty pairs) lawful below = lawful
good_for_less net bound box Fixed lawful below =
    record { plan = lawful.0; fixes = lawful.1; enough = below (plan_delay net lawful.0) (lawful.0, (lawful.1, refl)) }

-- and so are all leaves of a tree
all_good_for_less : (net : Net) (bound : ℤ) (box : Ranges) (tree : Tree) → IsGood (IsLawfulLeaf net) box tree →
    ((inner : Ranges) (leaf : Leaf) (number : ℤ) → IsLeafOf box tree inner leaf → GivesNumber net inner leaf number → bound ≤ℤ number) → IsGood (IsGoodLeaf net bound) box tree
all_good_for_less net bound box (AtLeaf leaf) lawful below = good_for_less net bound box leaf lawful (λ number gives. below box leaf number (refl, refl) gives)
all_good_for_less net bound box (Split column at left right) lawful below = (
  lawful.0,
  all_good_for_less net bound (left_of box column at) left lawful.1 (λ inner leaf number of gives. below inner leaf number (inl of) gives),
  all_good_for_less net bound (right_of box column at) right lawful.2 (λ inner leaf number of gives. below inner leaf number (inr of) gives),
)

-- so a tree certifies its least number
pub least_number_is_certified : (net : Net) (bound : ℤ) (tree : Tree) → IsGood (IsLawfulLeaf net) (root_of net) tree → IsLeastGiven net tree bound → Certifies net bound tree
least_number_is_certified net bound tree lawful least =
    all_good_for_less net bound (root_of net) tree lawful (λ inner leaf number of gives. least.least number (record { inner = inner; leaf = leaf; of = of; gives = gives }))

-- the leaf in whose box the point of an admissible plan lies gives a number, which is at most the plan's delay
number_at_point : (net : Net) (box : Ranges) (leaf : Leaf) (plan : Plan) → IsValid net → IsAdmissiblePlan net plan → IsLawfulLeaf net box leaf →
    IsInside (length (program_of net).columns) box (value_at (point_of net plan.words)) → (number : ℤ) × (GivesNumber net box leaf number × (number ≤ℤ plan_delay net plan))
number_at_point net box (Priced pairs) plan valid admissible lawful inside =
    let value : ℤ = value_of_pairs (program_of net) true box pairs in
    let below : ceiling value ≤ℤ plan_delay net plan =
    leaf_bounds net (ceiling value) box (Priced pairs) plan valid admissible
    (record { lawful = lawful; number = ceiling value; gives = ceiling_is value; enough = omega (arith, ints) }) inside in
    (ceiling value, (ceiling_is value, below))
number_at_point net box (Empty pairs) plan valid admissible lawful inside =
    absurd (let above = leaf_bounds net (plan_delay net plan +ℤ pos 1) box (Empty pairs) plan valid admissible lawful inside in omega (arith, ints, above))
number_at_point net box Fixed plan valid admissible lawful inside =
    let below : plan_delay net lawful.0 ≤ℤ plan_delay net plan =
    leaf_bounds net (plan_delay net lawful.0) box Fixed plan valid admissible (record { plan = lawful.0; fixes = lawful.1; enough = omega (arith, ints) }) inside in
    (plan_delay net lawful.0, ((lawful.0, (lawful.1, refl)), below))

pub number_below_delay : (net : Net) (tree : Tree) (plan : Plan) → IsValid net → IsGood (IsLawfulLeaf net) (root_of net) tree → IsAdmissiblePlan net plan →
    (number : ℤ) × (IsGivenIn net tree number × (number ≤ℤ plan_delay net plan))
number_below_delay net tree plan valid lawful admissible =
    let n : ℕ = length (program_of net).columns in
    let x : ℕ → ℤ = value_at (point_of net plan.words) in
    let at : LeafAt n (root_of net) tree x =
    leaf_at n (root_of net) tree x (point_inside net (point_of net plan.words) (points_are_integer net plan valid admissible)) in
    let here : IsLawfulLeaf net at.inner at.leaf = leaf_is_good (IsLawfulLeaf net) (root_of net) tree at.inner at.leaf lawful at.of in
    let number = number_at_point net at.inner at.leaf plan valid admissible here at.inside in
    (number.0, (record { inner = at.inner; leaf = at.leaf; of = at.of; gives = number.1.0 }, number.1.1))
