-- What a search keeps where a leaf is closed or split, and where a better plan is taken.
use Rattle.std.proofs.Common.{◌≡◌, refl, subst, ℕ, ◌+◌, ◌<◌, ◌≤◌, Bool, cond, Option, Some, None, arith, ap, sym, ◌∙◌, inl, inr}
use Rattle.std.specs.Prelude.{ℤ, pos, ◌≤ℤ◌, ◌⊎◌, int_lt, IsTrue, IfSome}
use Rattle.std.specs.Int.{int_min}
use Rattle.std.proofs.lemmas.Bool.{cases_Bool, cases_lt, le-ltb, lt-ltb, ltb-true}
use Rattle.std.proofs.lemmas.Int.{ints}
use Rattle.ct_base.specs.declared.net.Net.{Net}
use Rattle.sparse_program.specs.Box.{Ranges}
use Rattle.certificate_model.specs.Tree as model
use Rattle.certificate_model.proofs.ReasonLaws.{int_lt-false, int_lt-true}
use Rattle.program_model.specs.Points.{program_of}
use Rattle.safe_bound.specs.Costed.{Costed, IsCostedOf}
use Rattle.kept_value.specs.Kept.{IsKeptOf, Kept}
use Rattle.plan_rounding.specs.Named.{named_plan}
use Rattle.plan_rounding.specs.Replayed.{IsReplayed, delay_in}
use Rattle.plan_rounding.specs.declared.replays.ReplayedPlan.{ReplayedPlan}
use Rattle.branch_tree.specs.Boxes.{Growing, IsGrowing, box_of, closed_at, split_at}
use Rattle.branch_tree.specs.OpenTree.{has, is_open, size, times}
use Rattle.search_model.specs.LeafNumbers.{GivesNumber}
use Rattle.solve_core.specs.Growth.{IsClosedWell, IsTreeOf}
use Rattle.solve_core.specs.Searched.{IsReached}
use Rattle.solve_core.specs.Solved.{IsFound}
use Rattle.solve_core.specs.inner.Searching.{CanClose, IsSearching, Stands, lesser_of}
use Rattle.solve_core.specs.declared.search.Search.{Search}

-- the lesser of two whole numbers is one of them, and above neither
min_is : (a b : ℤ) → ((int_min a b ≡ a) × (a ≤ℤ b)) ⊎ ((int_min a b ≡ b) × (b ≤ℤ a))
min_is a b =
    elim (cases_Bool (int_lt b a)) [
      | inl sooner ↦
          let less = int_lt-true b a sooner in
          inr ((rw sooner refl), omega (arith, ints, less))
      | inr later ↦ inl ((rw later refl), int_lt-false b a later)
    ]

-- the lesser number is no greater than the least
pub lesser_below : (least : ℤ) (number : Option ℤ) → lesser_of least number ≤ℤ least
lesser_below least None = omega (arith, ints)
lesser_below least (Some number) = elim (min_is least number) [ inl first ↦ omega (arith, ints, first.0) | inr second ↦ omega (arith, ints, second.0, second.1) ]

-- it is the least, or the number of the leaf
pub lesser_given : (net : Net) (box : Ranges) (how : model.Leaf) (least : ℤ) (number : Option ℤ) → IfSome number (GivesNumber net box how) →
    (lesser_of least number ≡ least) ⊎ GivesNumber net box how (lesser_of least number)
lesser_given net box how least None gives = inl refl
lesser_given net box how least (Some number) gives =
    elim (min_is least number) [ inl first ↦ inl first.0 | inr second ↦ inr (subst (λ (z : ℤ). GivesNumber net box how z) (sym second.0) gives) ]

-- and it has come as far as both
pub lesser_reached : (net : Net) (budget nodes : ℕ) (delay least : ℤ) (number : Option ℤ) → IsReached net budget delay least nodes →
    IfSome number (λ n. IsReached net budget delay n nodes) → IsReached net budget delay (lesser_of least number) nodes
lesser_reached net budget nodes delay least None reached other = reached
lesser_reached net budget nodes delay least (Some number) reached other =
    elim (min_is least number) [
      | inl first ↦ subst (λ (z : ℤ). IsReached net budget delay z nodes) (sym first.0) reached
      | inr second ↦ subst (λ (z : ℤ). IsReached net budget delay z nodes) (sym second.0) other
    ]

-- a number below the count is one of a node
is_node : (growing : Growing) (n : ℕ) → IsGrowing growing → n < size growing.tree → IsTrue (has growing.tree n)
is_node growing n is below =
    let once : times growing.tree n ≡ 1 = is.numbers n ∙ ap (λ (b : Bool). cond b 1 0) (lt-ltb n (size growing.tree) below) in
    lt-ltb 0 (times growing.tree n) (omega (arith, once))

-- and that of a node is below the count
node_below : (growing : Growing) (n : ℕ) → IsGrowing growing → IsTrue (has growing.tree n) → n < size growing.tree
node_below growing n is here =
    elim (cases_lt n (size growing.tree)) [
      | inl below ↦ below
      | inr past ↦
          let none : times growing.tree n ≡ 0 = is.numbers n ∙ ap (λ (b : Bool). cond b 1 0) (le-ltb n (size growing.tree) past) in
          absurd (omega (arith, ltb-true 0 (times growing.tree n) here, none))
    ]

-- the boxes stand at the same node of a larger tree, whose box is the same
pub stands_still : (net : Net) (before after : Search) → Stands net before → IsGrowing before.tree → IsGrowing after.tree → size before.tree.tree ≤ size after.tree.tree →
    box_of after.tree before.at ≡ box_of before.tree before.at → after.at ≡ before.at → after.kept ≡ before.kept → after.costed ≡ before.costed → Stands net after
stands_still net before after stands old new larger same at kept costed =
    let below : before.at < size after.tree.tree = (let was = node_below before.tree before.at old stands.there in omega (arith, was, larger)) in
    let box : box_of after.tree after.at ≡ box_of before.tree before.at = ap (λ (n : ℕ). box_of after.tree n) at ∙ same in
    record {
      there = subst (λ (n : ℕ). IsTrue (has after.tree.tree n)) (sym at) (is_node after.tree before.at new below);
      kept_of = subst (λ (k : Kept). IsKeptOf (program_of net) k) (sym kept) stands.kept_of;
      kept_box = ap (λ (k : Kept). k.box) kept ∙ stands.kept_box ∙ sym box;
      costed_of = subst (λ (k : Costed). IsCostedOf (program_of net) k) (sym costed) stands.costed_of;
      costed_box = ap (λ (k : Costed). k.box) costed ∙ stands.costed_box ∙ sym box;
    }

-- a better plan is found as well
pub found_better : (net : Net) (best : ReplayedPlan) (delay : ℕ) → IsReplayed net best → best.delay ≤ delay → ((long : Bool) → delay ≤ delay_in net (named_plan net long)) →
    IsFound net best.delay best.plan
found_better net best delay of less named =
    record { admissible = of.admissible; delay_is = of.delay; named = λ (long : Bool). (let old = named long in omega (arith, less, old)) }

-- a lesser delay as a whole number
pub lesser_delay : (lesser delay : ℕ) → lesser ≤ delay → pos lesser ≤ℤ pos delay
lesser_delay lesser delay less = omega (arith, ints, less)

-- what a search keeps where a leaf is closed: its tree by a law, and all else as it was
pub closed_keeps : (net : Net) (budget leaf : ℕ) (how : model.Leaf) (number : Option ℤ) (before after : Search) → IsSearching net budget before →
    CanClose net budget before leaf how number → after.tree ≡ closed_at before.tree leaf how → IsGrowing after.tree →
    (IsGrowing (closed_at before.tree leaf how) → IsTrue (is_open before.tree.tree leaf) →
    IsClosedWell net (pos before.best.delay) (lesser_of before.least number) (box_of before.tree leaf) how → lesser_of before.least number ≤ℤ before.least →
    (lesser_of before.least number ≡ before.least) ⊎ GivesNumber net (box_of before.tree leaf) how (lesser_of before.least number) →
    IsTreeOf net budget (pos before.best.delay) (lesser_of before.least number) (closed_at before.tree leaf how)) →
    size (closed_at before.tree leaf how).tree ≡ size before.tree.tree → box_of (closed_at before.tree leaf how) before.at ≡ box_of before.tree before.at →
    after.at ≡ before.at → after.kept ≡ before.kept → after.costed ≡ before.costed → after.best ≡ before.best →
    after.least ≡ lesser_of before.least number → IsSearching net budget after
closed_keeps net budget leaf how number before after keeps can tree growing law sizes boxes at kept costed best least =
    let closed : IsGrowing (closed_at before.tree leaf how) = subst IsGrowing tree growing in
    let delay : pos after.best.delay ≡ pos before.best.delay = ap (λ (b : ReplayedPlan). pos b.delay) best in
    let grown = law closed can.waits can.well (lesser_below before.least number) (lesser_given net (box_of before.tree leaf) how before.least number can.gives) in
    let as_many : size after.tree.tree ≡ size before.tree.tree = ap (λ (g : Growing). size g.tree) tree ∙ sizes in
    let reached = lesser_reached net budget (size before.tree.tree) (pos before.best.delay) before.least number keeps.reached can.reaches in
    record {
      grown = subst (λ (g : Growing). IsTreeOf net budget (pos after.best.delay) after.least g) (sym tree)
          (subst (λ (z : ℤ). IsTreeOf net budget (pos after.best.delay) z (closed_at before.tree leaf how)) (sym least)
          (subst (λ (z : ℤ). IsTreeOf net budget z (lesser_of before.least number) (closed_at before.tree leaf how)) (sym delay) grown));
      reached = subst (λ (n : ℕ). IsReached net budget (pos after.best.delay) after.least n) (sym as_many)
          (subst (λ (z : ℤ). IsReached net budget (pos after.best.delay) z (size before.tree.tree)) (sym least)
          (subst (λ (z : ℤ). IsReached net budget z (lesser_of before.least number) (size before.tree.tree)) (sym delay) reached));
      stands = stands_still net before after keeps.stands keeps.grown.keeps growing (omega (arith, as_many))
          (ap (λ (g : Growing). box_of g before.at) tree ∙ boxes) at kept costed;
      found = subst (λ (b : ReplayedPlan). IsFound net b.delay b.plan) (sym best) keeps.found;
    }

-- a budget is no less spent where the tree has grown within it
reached_larger : (net : Net) (budget nodes more : ℕ) (delay least : ℤ) → nodes + 2 ≤ budget → IsReached net budget delay least nodes → IsReached net budget delay least more
reached_larger net budget nodes more delay least within (inl above) = inl above
reached_larger net budget nodes more delay least within (inr spent) = absurd (omega (arith, within, spent.full))

-- what a search keeps where a leaf is split
pub split_keeps : (net : Net) (budget leaf column : ℕ) (before after : Search) → IsSearching net budget before → size before.tree.tree + 2 ≤ budget →
    after.tree ≡ split_at before.tree leaf column (pos 0) → IsGrowing after.tree →
    (IsGrowing (split_at before.tree leaf column (pos 0)) → IsTreeOf net budget (pos before.best.delay) before.least (split_at before.tree leaf column (pos 0))) →
    size (split_at before.tree leaf column (pos 0)).tree ≡ size before.tree.tree + 2 →
    (before.at < size before.tree.tree → box_of (split_at before.tree leaf column (pos 0)) before.at ≡ box_of before.tree before.at) →
    after.at ≡ before.at → after.kept ≡ before.kept → after.costed ≡ before.costed → after.best ≡ before.best → after.least ≡ before.least → IsSearching net budget after
split_keeps net budget leaf column before after keeps within tree growing law sizes boxes at kept costed best least =
    let parted : IsGrowing (split_at before.tree leaf column (pos 0)) = subst IsGrowing tree growing in
    let delay : pos after.best.delay ≡ pos before.best.delay = ap (λ (b : ReplayedPlan). pos b.delay) best in
    let larger : size after.tree.tree ≡ size before.tree.tree + 2 = ap (λ (g : Growing). size g.tree) tree ∙ sizes in
    let reached = reached_larger net budget (size before.tree.tree) (size after.tree.tree) (pos before.best.delay) before.least within keeps.reached in
    record {
      grown = subst (λ (g : Growing). IsTreeOf net budget (pos after.best.delay) after.least g) (sym tree)
          (subst (λ (z : ℤ). IsTreeOf net budget (pos after.best.delay) z (split_at before.tree leaf column (pos 0))) (sym least)
          (subst (λ (z : ℤ). IsTreeOf net budget z before.least (split_at before.tree leaf column (pos 0))) (sym delay) (law parted)));
      reached = subst (λ (z : ℤ). IsReached net budget (pos after.best.delay) z (size after.tree.tree)) (sym least)
          (subst (λ (z : ℤ). IsReached net budget z before.least (size after.tree.tree)) (sym delay) reached);
      stands = stands_still net before after keeps.stands keeps.grown.keeps growing (omega (arith, larger))
          (ap (λ (g : Growing). box_of g before.at) tree ∙ boxes (node_below before.tree before.at keeps.grown.keeps keeps.stands.there)) at kept costed;
      found = subst (λ (b : ReplayedPlan). IsFound net b.delay b.plan) (sym best) keeps.found;
    }
