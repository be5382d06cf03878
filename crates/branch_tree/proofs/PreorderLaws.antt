-- The nodes of a tree from the top down, while they are moved out of their slots.
use Rattle.std.proofs.Common.{◌≡◌, refl, ℕ, zero, suc, ◌+◌, ◌<◌, ◌≤◌, Bool, true, false, cond, eqb, ltb, List, [], ◌∷◌, ◌++◌, length, length-set, map, Some, ◌∙◌, sym, ap, subst, arith, append_assoc, append-nil, inl, inr, ℤ}
use Rattle.std.specs.Prelude.{flat_map}
use Rattle.std.proofs.lemmas.Bool.{cases_Bool, eqb-false, eqb-true, eq-eqb, ltb-false}
use Rattle.std.proofs.lemmas.List.{get_or-set_other, get_or-set_same, map-append}
use Rattle.std.proofs.lemmas.List.Elements.{All-cons, All-nil, All-tail}
use Rattle.certificate_model.specs.Nodes as model
use Rattle.certificate_model.specs.Tree as tree
use Rattle.cert_format.specs.Marks.{node_of}
use Rattle.cert_format.specs.declared.cert.Node.{Node}
use Rattle.branch_tree.specs.OpenTree.{Closed, Open, OpenTree, Parted, closed_of, is_open, leaf_of, opens, size, times}
use Rattle.branch_tree.specs.inner.Preorder.{AllBehind, GoesOn, IsUnderWay, nodes_below, taken, total, trees_of, work}
use Rattle.branch_tree.specs.inner.Slots.{AreBehind, AreSlots, no_slot, slot_of, tree_below, tree_of}
use Rattle.branch_tree.specs.declared.leaf.Leaf.{Leaf}
use Rattle.branch_tree.specs.declared.slot.Slot.{Slot}
use Rattle.branch_tree.specs.declared.slot.State.{State}
use Rattle.branch_tree.specs.declared.slot.State.TheVariants as state
use Rattle.sparse_program.specs.Box.{Ranges}
use Rattle.branch_tree.proofs.SlotLaws.{enough_levels, tree_kept}

-- 1 where two numbers are the same, else 0
abbrev one : ℕ → ℕ → ℕ
one n k = cond (eqb n k) 1 0

-- a tree has a node
size_some : (t : OpenTree) → 0 < size t
size_some (Open n) = omega arith
size_some (Closed n leaf) = omega arith
size_some (Parted n column at left right) = omega arith

-- ---- the tree of a node by its state

-- of an open leaf
tree_open : (slots : List Slot) (levels n : ℕ) → (slot_of slots n).state ≡ state.Open → tree_below slots levels n ≡ Open n
unfolding tree_below
tree_open slots zero n here = refl
tree_open slots (suc levels) n here = rw here refl

-- of a closed one
tree_closed : (slots : List Slot) (levels n : ℕ) (leaf : Leaf) → 0 < levels → (slot_of slots n).state ≡ state.Closed leaf → tree_below slots levels n ≡ Closed n (leaf_of leaf)
unfolding tree_below
tree_closed slots zero n leaf some here = absurd (omega arith)
tree_closed slots (suc levels) n leaf some here = rw here refl

-- of a split, whose sides have levels enough
tree_split : (slots : List Slot) (levels n column : ℕ) (at : ℤ) (left : ℕ) → AllBehind slots → n < length slots → length slots ≤ levels →
    (slot_of slots n).state ≡ state.Split column at left →
    tree_below slots levels n ≡ Parted n column at (tree_below slots levels left) (tree_below slots levels (left + 1))
unfolding tree_below
tree_split slots zero n column at left behind there levels here = absurd (omega arith)
tree_split slots (suc more) n column at left behind there levels here =
    let sides : (n < left) × (left + 1 < length slots) = subst (λ (s : State). AreBehind (length slots) n s) here (behind n there) in
    let first : tree_below slots more left ≡ tree_below slots (suc more) left = enough_levels slots behind more (suc more) left (omega (arith, sides.1)) (omega (arith, sides.0)) (omega arith) in
    let second : tree_below slots more (left + 1) ≡ tree_below slots (suc more) (left + 1) = enough_levels slots behind more (suc more) (left + 1) sides.1 (omega (arith, sides.0)) (omega arith) in
    rw here (ap (λ (l : OpenTree). Parted n column at l (tree_below slots more (left + 1))) first ∙ ap (λ (r : OpenTree). Parted n column at (tree_below slots (suc more) left) r) second)

-- ---- a node is taken out

-- the others stay
taken_others : (slots : List Slot) (n m : ℕ) → eqb m n ≡ false → slot_of (taken slots n) m ≡ slot_of slots m
taken_others slots n m apart = get_or-set_other slots n m (record (slot_of slots n) { state = state.Open }) no_slot (eqb-false m n apart)

-- as many
taken_long : (slots : List Slot) (n : ℕ) → length (taken slots n) ≡ length slots
taken_long slots n = length-set slots n (record (slot_of slots n) { state = state.Open })

-- the trees that do not reach it stay
trees_stay : (slots : List Slot) (n : ℕ) (numbers : List ℕ) → total (λ (t : OpenTree). times t n) (trees_of slots numbers) ≡ 0 →
    trees_of (taken slots n) numbers ≡ trees_of slots numbers
trees_stay slots n [] none = refl
trees_stay slots n (m ∷ numbers) none =
    let here : times (tree_below slots (length slots) m) n ≡ 0 = omega (arith, none) in
    let more : total (λ (t : OpenTree). times t n) (trees_of slots numbers) ≡ 0 = omega (arith, none) in
    let stays : tree_below (taken slots n) (length slots) m ≡ tree_below slots (length slots) m = tree_kept slots (taken slots n) n (taken_others slots n) (length slots) m here in
    let first : tree_below (taken slots n) (length (taken slots n)) m ≡ tree_below slots (length slots) m = rw (taken_long slots n) stays in
    let rest = trees_stay slots n numbers more in
    ap (λ (t : OpenTree). t ∷ trees_of (taken slots n) numbers) first ∙ ap (λ (ts : List OpenTree). tree_below slots (length slots) m ∷ ts) rest

-- the sides come behind their nodes
taken_behind : (slots : List Slot) (n : ℕ) → n < length slots → AllBehind slots → AllBehind (taken slots n)
taken_behind slots n there behind = λ m within.
    let inside : m < length slots = omega (arith, within, taken_long slots n) in
    elim (cases_Bool (eqb m n)) [
      | inl e ↦
          let same : m ≡ n = eqb-true m n e in
          let new : Slot = record (slot_of slots n) { state = state.Open } in
          let here : slot_of (taken slots n) m ≡ new = ap (slot_of (taken slots n)) same ∙ get_or-set_same slots n new no_slot there in
          rw here tt
      | inr apart ↦ rw (taken_others slots n m apart, taken_long slots n) (behind m inside)
    ]

-- ---- one node is written

-- a node that waits is reached once, so those that wait behind it do not reach it
alone : (all : List model.Node) (slots : List Slot) (n : ℕ) (waiting : List ℕ) (written : List Node) → IsUnderWay all slots (n ∷ waiting) written →
    0 < times (tree_below slots (length slots) n) n → total (λ (t : OpenTree). times t n) (trees_of slots waiting) ≡ 0
alone all slots n waiting written under some = omega (arith, under.once n, some)

-- an open leaf is none
pub goes_on_open : (all : List model.Node) (slots : List Slot) (n : ℕ) (waiting : List ℕ) (written : List Node) → n < length slots → (slot_of slots n).state ≡ state.Open →
    IsUnderWay all slots (n ∷ waiting) written → GoesOn all slots (taken slots n) (n ∷ waiting) waiting written
goes_on_open all slots n waiting written there here under =
    let is : tree_below slots (length slots) n ≡ Open n = tree_open slots (length slots) n here in
    let self : times (tree_below slots (length slots) n) n ≡ 1 = rw (is, eq-eqb n n refl) refl in
    let stay = trees_stay slots n waiting (alone all slots n waiting written under (omega (arith, self))) in
    record {
      under_way = record {
        behind = taken_behind slots n there under.behind;
        there = rw (taken_long slots n) (All-tail (λ m. m < length slots) n waiting under.there);
        once = λ k. rw stay (omega (arith, under.once k));
        nodes = rw stay (rw is at under.nodes);
      };
      less = rw stay (omega (arith, size_some (tree_below slots (length slots) n)));
    }

-- a closed leaf is one
pub goes_on_closed : (all : List model.Node) (slots : List Slot) (n : ℕ) (waiting : List ℕ) (written : List Node) (leaf : Leaf) (node : Node) → n < length slots →
    (slot_of slots n).state ≡ state.Closed leaf → node_of node ≡ model.LeafNode (leaf_of leaf) →
    IsUnderWay all slots (n ∷ waiting) written → GoesOn all slots (taken slots n) (n ∷ waiting) waiting (written ++ node ∷ [])
goes_on_closed all slots n waiting written leaf node there here node_is under =
    let is : tree_below slots (length slots) n ≡ Closed n (leaf_of leaf) = tree_closed slots (length slots) n leaf (omega (arith, there)) here in
    let self : times (tree_below slots (length slots) n) n ≡ 1 = rw (is, eq-eqb n n refl) refl in
    let stay = trees_stay slots n waiting (alone all slots n waiting written under (omega (arith, self))) in
    let nodes : map node_of written ++ (model.LeafNode (leaf_of leaf) ∷ flat_map nodes_below (trees_of slots waiting)) ≡ all = rw is at under.nodes in
    record {
      under_way = record {
        behind = taken_behind slots n there under.behind;
        there = rw (taken_long slots n) (All-tail (λ m. m < length slots) n waiting under.there);
        once = λ k. rw stay (omega (arith, under.once k));
        nodes = rw (stay, map-append node_of written (node ∷ []), append_assoc) (rw node_is nodes);
      };
      less = rw stay (omega (arith, size_some (tree_below slots (length slots) n)));
    }

-- a split is one, and its sides wait
pub goes_on_split : (all : List model.Node) (slots : List Slot) (n : ℕ) (waiting : List ℕ) (written : List Node) (column : ℕ) (at : ℤ) (left : ℕ) (node : Node) →
    n < length slots → (slot_of slots n).state ≡ state.Split column at left → node_of node ≡ model.SplitNode column at →
    IsUnderWay all slots (n ∷ waiting) written → GoesOn all slots (taken slots n) (n ∷ waiting) (left ∷ (left + 1) ∷ waiting) (written ++ node ∷ [])
goes_on_split all slots n waiting written column at left node there here node_is under =
    let first : OpenTree = tree_below slots (length slots) left in
    let second : OpenTree = tree_below slots (length slots) (left + 1) in
    let is : tree_below slots (length slots) n ≡ Parted n column at (tree_below slots (length slots) left) (tree_below slots (length slots) (left + 1)) =
    tree_split slots (length slots) n column at left under.behind there (omega arith) here in
    let sides : (n < left) × (left + 1 < length slots) = subst (λ (s : State). AreBehind (length slots) n s) here (under.behind n there) in
    let counted : (k : ℕ) → one n k + times (tree_below slots (length slots) left) k + times (tree_below slots (length slots) (left + 1)) k
    + total (λ (t : OpenTree). times t k) (trees_of slots waiting) ≤ 1 = λ k. rw is at (under.once k) in
    let self : one n n ≡ 1 = rw (eq-eqb n n refl) refl in
    let none : total (λ (t : OpenTree). times t n) (trees_of slots (left ∷ (left + 1) ∷ waiting)) ≡ 0 = omega (arith, counted n, self) in
    let stay = trees_stay slots n (left ∷ (left + 1) ∷ waiting) none in
    let nodes : map node_of written ++ ((model.SplitNode column at ∷ (nodes_below (tree_below slots (length slots) left) ++ nodes_below (tree_below slots (length slots) (left + 1))))
    ++ flat_map nodes_below (trees_of slots waiting)) ≡ all = rw is at under.nodes in
    record {
      under_way = record {
        behind = taken_behind slots n there under.behind;
        there = rw (taken_long slots n)
            (All-cons (λ m. m < length slots) left ((left + 1) ∷ waiting) (omega (arith, sides.1))
            (All-cons (λ m. m < length slots) (left + 1) waiting sides.1 (All-tail (λ m. m < length slots) n waiting under.there)));
        once = λ k. subst (λ (trees : List OpenTree). total (λ (t : OpenTree). times t k) trees ≤ 1) (sym stay) (omega (arith, counted k));
        nodes = subst (λ (trees : List OpenTree). map node_of (written ++ node ∷ []) ++ flat_map nodes_below trees ≡ all) (sym stay)
            (rw (map-append node_of written (node ∷ []), append_assoc) (rw node_is (rw append_assoc at nodes)));
      };
      less = subst (λ (trees : List OpenTree). total size trees < work slots (n ∷ waiting)) (sym stay) (rw is (omega arith));
    }

-- ---- the first and the last

-- a number that is 1 or 0
at_most_one : (b : Bool) → cond b 1 0 ≤ 1
at_most_one true = omega arith
at_most_one false = omega arith

-- at first the root waits
pub begins : (root : Ranges) (slots : List Slot) → AreSlots root slots → IsUnderWay (nodes_below (tree_of slots)) slots (0 ∷ []) []
begins root slots kept = record {
  behind = λ n there. (kept.each n there).behind;
  there = All-cons (λ m. m < length slots) 0 [] kept.some (All-nil (λ m. m < length slots));
  once = λ k. omega (arith, kept.numbers k, at_most_one (ltb k (length slots)));
  nodes = append-nil (nodes_below (tree_of slots));
}

-- at last nothing waits
pub ends : (all : List model.Node) (slots : List Slot) (waiting : List ℕ) (written : List Node) → waiting ≡ [] → IsUnderWay all slots waiting written → map node_of written ≡ all
ends all slots waiting written none under = sym (append-nil (map node_of written)) ∙ (rw none at under.nodes)

-- ---- whole trees

-- a tree without numbers and its nodes
pub record IsWhole (t : OpenTree) : Type 0 where
  pub whole : tree.Tree
  pub closed : closed_of t ≡ Some whole
  pub nodes : nodes_below t ≡ model.nodes_of whole

-- where no leaf is open, the tree is one without numbers
pub is_whole : (t : OpenTree) → ((n : ℕ) → opens t n ≡ 0) → IsWhole t
is_whole (Open n) none = absurd (let self : one n n ≡ 0 = none n in let is : one n n ≡ 1 = rw (eq-eqb n n refl) refl in omega (arith, self, is))
is_whole (Closed n leaf) none = record { whole = tree.AtLeaf leaf; closed = refl; nodes = refl }
is_whole (Parted n column at left right) none =
    let first = is_whole left (λ k. omega (arith, none k)) in
    let second = is_whole right (λ k. omega (arith, none k)) in
    record {
      whole = tree.Split column at first.whole second.whole;
      closed = rw (first.closed, second.closed) refl;
      nodes = rw (first.nodes, second.nodes) refl;
    }

-- no leaf is open where each is not
pub no_opens : (t : OpenTree) (n : ℕ) → is_open t n ≡ false → opens t n ≡ 0
no_opens t n shut = omega (arith, ltb-false 0 (opens t n) shut)
