-- A node is good in its box or broken there, never both, and a broken one has one first reason.
use Rattle.std.proofs.Common.{◌≡◌, ◌⊎◌, inl, inr, refl, ℕ, true, false, List, [], ◌∷◌, Some, Err, ◌∙◌, sym, ap, arith}
use Rattle.std.specs.Prelude.{ℤ, pos, ◌≤ℤ◌, ◌<ℤ◌, int_lt, All}
use Rattle.std.proofs.lemmas.Int.{ints}
use Rattle.listed.proofs.JoinLaws.{append_none}
use Rattle.refusals.specs.Faults.{unless, where_so}
use Rattle.refusals.proofs.FirstFaults.{where_none}
use Rattle.ct_base.specs.Validity.{IsValid}
use Rattle.ct_base.specs.declared.net.Net.{Net}
use Rattle.ct_base.specs.declared.plan.Plan.{Plan}
use Rattle.sparse_program.specs.Box.{Ranges}
use Rattle.program_model.specs.Points.{program_of}
use Rattle.certificate_model.specs.Leaves.{FixesPlan, IsGoodEmpty, IsGoodFixed, IsGoodPriced, plan_delay}
use Rattle.certificate_model.specs.Nodes.{LeafNode, Node, SplitNode}
use Rattle.certificate_model.specs.Reasons.{FixedReason, FixesLess, IsFirst, IsGoodNode, IsUnfixed, NodeReason, ceiling, empty_reasons, pair_reasons, priced_reasons, split_reasons}
use Rattle.certificate_model.specs.Text.{IsSpelledPair, node_in}
use Rattle.certificate_model.specs.Tree.{Empty, Fixed, Priced}
use Rattle.certificate_model.specs.Value.{value_of_pairs}
use Rattle.certificate_model.specs.declared.verdict.Why.{Why}
use Rattle.certificate_model.specs.declared.verdict.Why.TheVariants.{Form, Tail, Column, Range, Row as NoRow, Order, Price, Sign, Weak, NotEmpty, NotFixed, NotPlan}
use Rattle.certificate_model.proofs.PlanLaws.{fixed_is_no_more, one_fixed_delay}
use Rattle.certificate_model.proofs.ReasonLaws.{IsNonzero, ceiling_is, int_lt-false, lawful_has_none, lawful_where_no_reason, le-int_lt, none_where, split_has_none}
use Rattle.certificate_model.proofs.SafeLaws.{one_ceiling}
use Rattle.certificate_model.proofs.TextLaws.{node_spells_line}

-- ---- first reasons

-- a list has one first reason
one_first : (why other : Why) (reasons : List Why) → IsFirst why reasons → IsFirst other reasons → why ≡ other
one_first why other (first ∷ more) is too = is ∙ sym too
one_first why other [] is too = absurd is

-- and no list of none has one
no_first : (why : Why) (reasons : List Why) → reasons ≡ [] → IsFirst why reasons → ⊥
no_first why [] none is = is
no_first why (first ∷ more) none is = absurd (cc)

-- a refusal by the first of a list
pub refused_by_first : {X : Type 0} (reasons : List Why) (made : X) (why : Why) → Err why ≡ unless reasons made → IsFirst why reasons
refused_by_first [] made why refused = absurd (cc)
refused_by_first (first ∷ more) made why refused = cc refused

-- ---- priced and empty leaves

-- pairs of prices other than 0 that give no reason, with the number that they give, make a good priced leaf
pub good_priced : (net : Net) (bound : ℤ) (box : Ranges) (pairs : List (ℕ × ℤ)) → All IsNonzero pairs → priced_reasons net bound box pairs ≡ [] → IsGoodPriced net bound box pairs
good_priced net bound box pairs some none =
    let number : ℤ = ceiling (value_of_pairs (program_of net) true box pairs) in
    let parts = append_none (pair_reasons (program_of net).rows 0 pairs) (where_so (int_lt number bound) (Weak number)) none in
    record {
      lawful = lawful_where_no_reason (program_of net).rows pairs some parts.0;
      number = number;
      gives = ceiling_is (value_of_pairs (program_of net) true box pairs);
      enough = int_lt-false number bound (where_none (int_lt number bound) (Weak number) parts.1);
    }

-- and the other way round
pub priced_has_none : (net : Net) (bound : ℤ) (box : Ranges) (pairs : List (ℕ × ℤ)) → IsGoodPriced net bound box pairs → priced_reasons net bound box pairs ≡ []
priced_has_none net bound box pairs good =
    let value : ℤ = value_of_pairs (program_of net) true box pairs in
    let same : good.number ≡ ceiling value = one_ceiling value good.number (ceiling value) good.gives (ceiling_is value) in
    let enough : bound ≤ℤ ceiling value = rw same at good.enough in
    let strong : where_so (int_lt (ceiling value) bound) (Weak (ceiling value)) ≡ [] = none_where (int_lt (ceiling value) bound) (Weak (ceiling value)) (le-int_lt (ceiling value) bound enough) in
    rw (lawful_has_none (program_of net).rows pairs good.lawful, strong) refl

-- pairs of prices other than 0 that give no reason, with their value without costs, make a good empty leaf
pub good_empty : (net : Net) (box : Ranges) (pairs : List (ℕ × ℤ)) → All IsNonzero pairs → empty_reasons net box pairs ≡ [] → IsGoodEmpty net box pairs
good_empty net box pairs some none =
    let value : ℤ = value_of_pairs (program_of net) false box pairs in
    let parts = append_none (pair_reasons (program_of net).rows 0 pairs) (where_so (int_lt value (pos 1)) (NotEmpty value)) none in
    record {
      lawful = lawful_where_no_reason (program_of net).rows pairs some parts.0;
      above = int_lt-false value (pos 1) (where_none (int_lt value (pos 1)) (NotEmpty value) parts.1);
    }

-- and the other way round
pub empty_has_none : (net : Net) (box : Ranges) (pairs : List (ℕ × ℤ)) → IsGoodEmpty net box pairs → empty_reasons net box pairs ≡ []
empty_has_none net box pairs good =
    let value : ℤ = value_of_pairs (program_of net) false box pairs in
    let above : where_so (int_lt value (pos 1)) (NotEmpty value) ≡ [] = none_where (int_lt value (pos 1)) (NotEmpty value) (le-int_lt value (pos 1) good.above) in
    rw (lawful_has_none (program_of net).rows pairs good.lawful, above) refl

-- ---- fixed leaves

-- the reasons of a fixed leaf
abbrev FixedKinds : Net → ℤ → Ranges → Why → Type 0
FixedKinds net bound box why =
    ((why ≡ NotFixed) × IsUnfixed net box)
    ⊎ (((why ≡ NotPlan) × ((¬ IsUnfixed net box) × ((plan : Plan) → ¬ FixesPlan net box plan)))
    ⊎ ((delay : ℤ) × ((why ≡ Weak delay) × FixesLess net bound box delay)))

-- there are three
fixed_kinds : (net : Net) (bound : ℤ) (box : Ranges) (why : Why) → FixedReason net bound box why → FixedKinds net bound box why
fixed_kinds net bound box NotFixed reason = inl (refl, reason)
fixed_kinds net bound box NotPlan reason = inr (inl (refl, reason))
fixed_kinds net bound box (Weak delay) reason = inr (inr (delay, (refl, reason)))
fixed_kinds net bound box Form reason = absurd reason
fixed_kinds net bound box Tail reason = absurd reason
fixed_kinds net bound box Column reason = absurd reason
fixed_kinds net bound box Range reason = absurd reason
fixed_kinds net bound box NoRow reason = absurd reason
fixed_kinds net bound box Order reason = absurd reason
fixed_kinds net bound box Price reason = absurd reason
fixed_kinds net bound box Sign reason = absurd reason
fixed_kinds net bound box (NotEmpty value) reason = absurd reason

-- a fixed leaf has one
one_of_kinds : (net : Net) (bound : ℤ) (box : Ranges) (why other : Why) → IsValid net → FixedKinds net bound box why → FixedKinds net bound box other → why ≡ other
one_of_kinds net bound box why other valid (inl first) (inl second) = first.0 ∙ sym second.0
one_of_kinds net bound box why other valid (inl first) (inr (inl second)) = absurd (second.1.0 first.1)
one_of_kinds net bound box why other valid (inl first) (inr (inr second)) = absurd (fixed_is_no_more net box second.1.1.plan second.1.1.fixes first.1)
one_of_kinds net bound box why other valid (inr (inl first)) (inl second) = absurd (first.1.0 second.1)
one_of_kinds net bound box why other valid (inr (inl first)) (inr (inl second)) = first.0 ∙ sym second.0
one_of_kinds net bound box why other valid (inr (inl first)) (inr (inr second)) = absurd (first.1.1 second.1.1.plan second.1.1.fixes)
one_of_kinds net bound box why other valid (inr (inr first)) (inl second) = absurd (fixed_is_no_more net box first.1.1.plan first.1.1.fixes second.1)
one_of_kinds net bound box why other valid (inr (inr first)) (inr (inl second)) = absurd (second.1.1 first.1.1.plan first.1.1.fixes)
one_of_kinds net bound box why other valid (inr (inr first)) (inr (inr second)) =
    let same : plan_delay net first.1.1.plan ≡ plan_delay net second.1.1.plan = one_fixed_delay net box first.1.1.plan second.1.1.plan valid first.1.1.fixes second.1.1.fixes in
    first.1.0 ∙ ap Weak (first.1.1.is ∙ same ∙ sym second.1.1.is) ∙ sym second.1.0

-- and none where it is good
no_kind : (net : Net) (bound : ℤ) (box : Ranges) (why : Why) → IsValid net → IsGoodFixed net bound box → FixedKinds net bound box why → ⊥
no_kind net bound box why valid good (inl reason) = fixed_is_no_more net box good.plan good.fixes reason.1
no_kind net bound box why valid good (inr (inl reason)) = reason.1.1 good.plan good.fixes
no_kind net bound box why valid good (inr (inr reason)) =
    let same : plan_delay net good.plan ≡ plan_delay net reason.1.1.plan = one_fixed_delay net box good.plan reason.1.1.plan valid good.fixes reason.1.1.fixes in
    let enough : bound ≤ℤ plan_delay net good.plan = good.enough in
    let is : reason.0 ≡ plan_delay net reason.1.1.plan = reason.1.1.is in
    let less : reason.0 <ℤ bound = reason.1.1.less in
    absurd (omega (arith, ints, same, enough, is, less))

-- ---- nodes

-- a node has one first reason
pub one_reason : (net : Net) (bound : ℤ) (box : Ranges) (node : Node) (why other : Why) → IsValid net → NodeReason net bound box node why → NodeReason net bound box node other → why ≡ other
one_reason net bound box (SplitNode column at) why other valid is too = one_first why other (split_reasons box column at) is too
one_reason net bound box (LeafNode (Priced pairs)) why other valid is too = one_first why other (priced_reasons net bound box pairs) is too
one_reason net bound box (LeafNode (Empty pairs)) why other valid is too = one_first why other (empty_reasons net box pairs) is too
one_reason net bound box (LeafNode Fixed) why other valid is too = one_of_kinds net bound box why other valid (fixed_kinds net bound box why is) (fixed_kinds net bound box other too)

-- a good node has none
pub good_has_no_reason : (net : Net) (bound : ℤ) (box : Ranges) (node : Node) (why : Why) → IsValid net → IsGoodNode net bound box node → NodeReason net bound box node why → ⊥
good_has_no_reason net bound box (SplitNode column at) why valid good reason = no_first why (split_reasons box column at) (split_has_none box column at good) reason
good_has_no_reason net bound box (LeafNode (Priced pairs)) why valid good reason = no_first why (priced_reasons net bound box pairs) (priced_has_none net bound box pairs good) reason
good_has_no_reason net bound box (LeafNode (Empty pairs)) why valid good reason = no_first why (empty_reasons net box pairs) (empty_has_none net box pairs good) reason
good_has_no_reason net bound box (LeafNode Fixed) why valid good reason = no_kind net bound box why valid good (fixed_kinds net bound box why reason)

-- ---- lines

-- the prices of pairs that have a spelling are not 0
spelled_are_nonzero : (pairs : List (ℕ × ℤ)) → All IsSpelledPair pairs → All IsNonzero pairs
spelled_are_nonzero pairs spelled = λ k d within. (spelled k d within).some

-- a line names no price of 0 on a priced leaf
pub priced_are_nonzero : (line : List ℕ) (pairs : List (ℕ × ℤ)) → node_in line ≡ Some (LeafNode (Priced pairs)) → All IsNonzero pairs
priced_are_nonzero line pairs named = spelled_are_nonzero pairs (node_spells_line line (LeafNode (Priced pairs)) named).1

-- nor on an empty one
pub empty_are_nonzero : (line : List ℕ) (pairs : List (ℕ × ℤ)) → node_in line ≡ Some (LeafNode (Empty pairs)) → All IsNonzero pairs
empty_are_nonzero line pairs named = spelled_are_nonzero pairs (node_spells_line line (LeafNode (Empty pairs)) named).1
