-- The laws of trees that grow, for callers.
use Rattle.std.proofs.Common.{◌≡◌, refl, ℕ, ◌+◌, ◌*◌, ◌<◌, ◌≤◌, Bool, true, false, cond, eqb, ltb, Option, Some, None, ◌∙◌, sym, ap, arith, ℤ, inl, inr}
use Rattle.std.proofs.lemmas.Bool.{cases_Bool, cases_lt, eq-eqb, le-ltb, lt-ltb, ltb-true, ne_eqb}
use Rattle.sparse_program.specs.Box.{Ranges}
use Rattle.certificate_model.specs.Tree.{AtLeaf, IsGood, IsSplit, Leaf, Split, Tree, left_of, right_of}
use Rattle.branch_tree.specs.Boxes.{AreGood, AreSplits, Growing, IsGrowing, box_below, box_of, closed_at, split_at}
use Rattle.branch_tree.specs.OpenTree.{Closed, Open, OpenTree, Parted, closed_of, is_open, joined, opens, parted, replaced, size, times}
use Rattle.branch_tree.proofs.TreeLaws.{box_replaced, box_replaced-new, one, opens_replaced, opens_times}

-- ---- what is known of a leaf

-- a number that a node has is below the count, and stands once
leaf_once : (growing : Growing) (leaf : ℕ) → IsGrowing growing → is_open growing.tree leaf ≡ true → times growing.tree leaf ≡ 1
leaf_once growing leaf is here =
    let some = ltb-true 0 (opens growing.tree leaf) here in
    elim (cases_Bool (ltb leaf (size growing.tree))) [
      | inl below ↦ is.numbers leaf ∙ ap (λ (b : Bool). cond b 1 0) below
      | inr past ↦
          let none : times growing.tree leaf ≡ 0 = is.numbers leaf ∙ ap (λ (b : Bool). cond b 1 0) past in
          absurd (omega (arith, some, none, opens_times growing.tree leaf))
    ]

leaf_below : (growing : Growing) (leaf : ℕ) → IsGrowing growing → is_open growing.tree leaf ≡ true → leaf < size growing.tree
leaf_below growing leaf is here =
    elim (cases_lt leaf (size growing.tree)) [
      | inl below ↦ below
      | inr past ↦
          let none : times growing.tree leaf ≡ 0 = is.numbers leaf ∙ ap (λ (b : Bool). cond b 1 0) (le-ltb leaf (size growing.tree) past) in
          absurd (omega (arith, leaf_once growing leaf is here, none))
    ]

leaf_opens : (growing : Growing) (leaf : ℕ) → IsGrowing growing → is_open growing.tree leaf ≡ true → opens growing.tree leaf ≡ 1
leaf_opens growing leaf is here = omega (arith, ltb-true 0 (opens growing.tree leaf) here, opens_times growing.tree leaf, leaf_once growing leaf is here)

fresh : (growing : Growing) (k : ℕ) → IsGrowing growing → size growing.tree ≤ k → times growing.tree k ≡ 0
fresh growing k is past = is.numbers k ∙ ap (λ (b : Bool). cond b 1 0) (le-ltb k (size growing.tree) past)

-- ---- boxes

-- the box of the left side
pub left_side : (growing : Growing) (leaf column : ℕ) (at : ℤ) → IsGrowing growing → is_open growing.tree leaf ≡ true →
    box_of (split_at growing leaf column at) (size growing.tree) ≡ left_of (box_of growing leaf) column at
left_side growing leaf column at is here =
    let n : ℕ = size growing.tree in
    let self : eqb (size growing.tree) (size growing.tree) ≡ true = eq-eqb (size growing.tree) (size growing.tree) refl in
    let apart : eqb leaf (size growing.tree) ≡ false = ne_eqb leaf (size growing.tree) (λ same. omega (arith, leaf_below growing leaf is here)) in
    box_replaced-new leaf (size growing.tree) (parted leaf column at (size growing.tree, size growing.tree + 1)) (rw self (omega arith)) (rw apart refl) growing.root growing.tree
    (fresh growing (size growing.tree) is (omega arith)) (leaf_opens growing leaf is here) (leaf_once growing leaf is here)
    ∙ (rw self refl)

-- and of the right one
pub right_side : (growing : Growing) (leaf column : ℕ) (at : ℤ) → IsGrowing growing → is_open growing.tree leaf ≡ true →
    box_of (split_at growing leaf column at) (size growing.tree + 1) ≡ right_of (box_of growing leaf) column at
right_side growing leaf column at is here =
    let self : eqb (size growing.tree + 1) (size growing.tree + 1) ≡ true = eq-eqb (size growing.tree + 1) (size growing.tree + 1) refl in
    let other : eqb (size growing.tree) (size growing.tree + 1) ≡ false = ne_eqb (size growing.tree) (size growing.tree + 1) (λ same. omega arith) in
    let apart : eqb leaf (size growing.tree + 1) ≡ false = ne_eqb leaf (size growing.tree + 1) (λ same. omega (arith, leaf_below growing leaf is here)) in
    box_replaced-new leaf (size growing.tree + 1) (parted leaf column at (size growing.tree, size growing.tree + 1)) (rw self (omega arith)) (rw apart refl) growing.root growing.tree
    (fresh growing (size growing.tree + 1) is (omega arith)) (leaf_opens growing leaf is here) (leaf_once growing leaf is here)
    ∙ (rw (other, self) refl)

-- the others stay
pub others_stay : (growing : Growing) (leaf column k : ℕ) (at : ℤ) → k < size growing.tree → box_of (split_at growing leaf column at) k ≡ box_of growing k
others_stay growing leaf column k at below =
    let not_left : eqb (size growing.tree) k ≡ false = ne_eqb (size growing.tree) k (λ same. omega arith) in
    let not_right : eqb (size growing.tree + 1) k ≡ false = ne_eqb (size growing.tree + 1) k (λ same. omega arith) in
    box_replaced leaf k (parted leaf column at (size growing.tree, size growing.tree + 1)) (rw (not_left, not_right) (omega arith)) (λ box. rw (not_left, not_right) refl) growing.root growing.tree

-- and all where a leaf is closed
pub closing_stays : (growing : Growing) (leaf k : ℕ) (how : Leaf) → box_of (closed_at growing leaf how) k ≡ box_of growing k
closing_stays growing leaf k how = box_replaced leaf k (Closed leaf how) refl (λ box. refl) growing.root growing.tree

-- ---- open leaves

-- a number that is put in the place of a leaf
opens_new : (growing : Growing) (leaf k : ℕ) (new : OpenTree) → IsGrowing growing → is_open growing.tree leaf ≡ true →
    opens (replaced leaf new growing.tree) k + one leaf k ≡ opens growing.tree k + opens new k
opens_new growing leaf k new is here =
    let counted = rw (leaf_opens growing leaf is here) at (opens_replaced leaf k new growing.tree) in
    omega (arith, counted)

-- the leaf is open no more
leaf_shut : (growing : Growing) (leaf : ℕ) (new : OpenTree) → IsGrowing growing → is_open growing.tree leaf ≡ true → opens new leaf ≡ 0 →
    is_open (replaced leaf new growing.tree) leaf ≡ false
leaf_shut growing leaf new is here none =
    let self : one leaf leaf ≡ 1 = rw (eq-eqb leaf leaf refl) refl in
    le-ltb 0 (opens (replaced leaf new growing.tree) leaf) (omega (arith, opens_new growing leaf leaf new is here, self, none, leaf_opens growing leaf is here))

-- and the others stay
leaf_stays : (growing : Growing) (leaf k : ℕ) (new : OpenTree) → (k ≡ leaf → ⊥) → opens new k ≡ 0 → is_open (replaced leaf new growing.tree) k ≡ is_open growing.tree k
leaf_stays growing leaf k new apart none =
    let other : one leaf k ≡ 0 = rw (ne_eqb leaf k (λ same. apart (sym same))) refl in
    let same : opens (replaced leaf new growing.tree) k ≡ opens growing.tree k =
    omega (arith, opens_replaced leaf k new growing.tree, ap (λ m. opens growing.tree leaf * m) other, ap (λ m. opens growing.tree leaf * m) none) in
    ap (λ m. ltb 0 m) same

pub split_shut : (growing : Growing) (leaf column : ℕ) (at : ℤ) → IsGrowing growing → is_open growing.tree leaf ≡ true → is_open (split_at growing leaf column at).tree leaf ≡ false
split_shut growing leaf column at is here =
    let below = leaf_below growing leaf is here in
    let not_left : eqb (size growing.tree) leaf ≡ false = ne_eqb (size growing.tree) leaf (λ same. omega arith) in
    let not_right : eqb (size growing.tree + 1) leaf ≡ false = ne_eqb (size growing.tree + 1) leaf (λ same. omega arith) in
    leaf_shut growing leaf (parted leaf column at (size growing.tree, size growing.tree + 1)) is here (rw (not_left, not_right) refl)

pub sides_open : (growing : Growing) (leaf column k : ℕ) (at : ℤ) → IsGrowing growing → is_open growing.tree leaf ≡ true →
    size growing.tree < k + 1 → k < size growing.tree + 2 → is_open (split_at growing leaf column at).tree k ≡ true
sides_open growing leaf column k at is here above below =
    let new : OpenTree = parted leaf column at (size growing.tree, size growing.tree + 1) in
    let apart : one leaf k ≡ 0 = rw (ne_eqb leaf k (λ same. omega (arith, leaf_below growing leaf is here, same, above))) refl in
    let counted = opens_new growing leaf k (parted leaf column at (size growing.tree, size growing.tree + 1)) is here in
    elim (cases_Bool (eqb (size growing.tree) k)) [
      | inl e ↦
          let some : opens (parted leaf column at (size growing.tree, size growing.tree + 1)) k ≡ 1 + one (size growing.tree + 1) k = rw e refl in
          lt-ltb 0 (opens (replaced leaf (parted leaf column at (size growing.tree, size growing.tree + 1)) growing.tree) k) (omega (arith, counted, some, apart))
      | inr differs ↦
          let last : eqb (size growing.tree + 1) k ≡ true = eq-eqb (size growing.tree + 1) k (next_of (size growing.tree) k above below differs) in
          let some : opens (parted leaf column at (size growing.tree, size growing.tree + 1)) k ≡ 1 = rw (differs, last) refl in
          lt-ltb 0 (opens (replaced leaf (parted leaf column at (size growing.tree, size growing.tree + 1)) growing.tree) k) (omega (arith, counted, some, apart))
    ]
  where
    next_of : (n k : ℕ) → n < k + 1 → k < n + 2 → eqb n k ≡ false → n + 1 ≡ k
    next_of n k above below differs =
        elim (cases_lt n k) [
          | inl less ↦ omega arith
          | inr not_less ↦
              let same : eqb n k ≡ true = eq-eqb n k (omega arith) in
              absurd (cc)
        ]

pub split_stays : (growing : Growing) (leaf column k : ℕ) (at : ℤ) → k < size growing.tree → (k ≡ leaf → ⊥) →
    is_open (split_at growing leaf column at).tree k ≡ is_open growing.tree k
split_stays growing leaf column k at below apart =
    let not_left : eqb (size growing.tree) k ≡ false = ne_eqb (size growing.tree) k (λ same. omega arith) in
    let not_right : eqb (size growing.tree + 1) k ≡ false = ne_eqb (size growing.tree + 1) k (λ same. omega arith) in
    leaf_stays growing leaf k (parted leaf column at (size growing.tree, size growing.tree + 1)) apart (rw (not_left, not_right) refl)

pub closed_shut : (growing : Growing) (leaf : ℕ) (how : Leaf) → IsGrowing growing → is_open growing.tree leaf ≡ true → is_open (closed_at growing leaf how).tree leaf ≡ false
closed_shut growing leaf how is here = leaf_shut growing leaf (Closed leaf how) is here refl

pub closed_stays : (growing : Growing) (leaf k : ℕ) (how : Leaf) → (k ≡ leaf → ⊥) → is_open (closed_at growing leaf how).tree k ≡ is_open growing.tree k
closed_stays growing leaf k how apart = leaf_stays growing leaf k (Closed leaf how) apart refl

-- ---- good leaves

-- closed leaves stay good where the new tree has good ones, whatever makes a leaf good
pub good_replaced : (GoodLeaf : Ranges → Leaf → Type 0) (leaf : ℕ) (new : OpenTree) (box : Ranges) (tree : OpenTree) → times tree leaf ≤ 1 →
    AreGood GoodLeaf box tree → (0 < opens tree leaf → AreGood GoodLeaf (box_below box tree leaf) new) → AreGood GoodLeaf box (replaced leaf new tree)
good_replaced GoodLeaf leaf new box (Open n) once good below =
    elim (cases_Bool (eqb n leaf)) [
      | inl e ↦ rw e (below (rw e (omega arith)))
      | inr e ↦ rw e tt
    ]
good_replaced GoodLeaf leaf new box (Closed n closed) once good below = good
good_replaced GoodLeaf leaf new box (Parted n column at left right) once good below = (
  good_replaced GoodLeaf leaf new (left_of box column at) left (omega (arith, once)) good.0
      (λ here.
      let in_left : ltb 0 (times left leaf) ≡ true = lt-ltb 0 (times left leaf) (omega (arith, opens_times left leaf, here)) in
      rw in_left at (below (omega (arith, here)))),
  good_replaced GoodLeaf leaf new (right_of box column at) right (omega (arith, once)) good.1
      (λ here.
      let not_left : ltb 0 (times left leaf) ≡ false = le-ltb 0 (times left leaf) (omega (arith, opens_times right leaf, here, once)) in
      let in_right : ltb 0 (times right leaf) ≡ true = lt-ltb 0 (times right leaf) (omega (arith, opens_times right leaf, here)) in
      rw (not_left, in_right) at (below (omega (arith, here)))),
)

-- a split closes no leaf
pub good_split : (GoodLeaf : Ranges → Leaf → Type 0) (leaf column : ℕ) (at : ℤ) (sides : ℕ × ℕ) (box : Ranges) (tree : OpenTree) →
    AreGood GoodLeaf box tree → AreGood GoodLeaf box (replaced leaf (parted leaf column at sides) tree)
good_split GoodLeaf leaf column at sides box (Open n) good =
    elim (cases_Bool (eqb n leaf)) [
      | inl e ↦ rw e (tt, tt)
      | inr e ↦ rw e tt
    ]
good_split GoodLeaf leaf column at sides box (Closed n closed) good = good
good_split GoodLeaf leaf column at sides box (Parted n here value left right) good =
    (good_split GoodLeaf leaf column at sides (left_of box here value) left good.0, good_split GoodLeaf leaf column at sides (right_of box here value) right good.1)

-- a number of a node stands at most once
at_most_once : (growing : Growing) (k : ℕ) → IsGrowing growing → times growing.tree k ≤ 1
at_most_once growing k is =
    elim (cases_Bool (ltb k (size growing.tree))) [
      | inl below ↦ let counted : times growing.tree k ≡ 1 = is.numbers k ∙ ap (λ (b : Bool). cond b 1 0) below in omega (arith, counted)
      | inr past ↦ let counted : times growing.tree k ≡ 0 = is.numbers k ∙ ap (λ (b : Bool). cond b 1 0) past in omega (arith, counted)
    ]

-- a leaf is closed that is good in its box
pub good_closed : (GoodLeaf : Ranges → Leaf → Type 0) (growing : Growing) (leaf : ℕ) (how : Leaf) → IsGrowing growing → AreGood GoodLeaf growing.root growing.tree →
    GoodLeaf (box_of growing leaf) how → AreGood GoodLeaf growing.root (closed_at growing leaf how).tree
good_closed GoodLeaf growing leaf how is good here = good_replaced GoodLeaf leaf (Closed leaf how) growing.root growing.tree (at_most_once growing leaf is) good (λ some. here)

-- a whole tree of splits of their boxes and of good leaves is good
pub good_whole : (GoodLeaf : Ranges → Leaf → Type 0) (box : Ranges) (tree : OpenTree) (whole : Tree) → AreSplits box tree → AreGood GoodLeaf box tree →
    closed_of tree ≡ Some whole → IsGood GoodLeaf box whole
good_whole GoodLeaf box (Open n) whole splits good closed = absurd (cc)
good_whole GoodLeaf box (Closed n leaf) whole splits good closed =
    let same : AtLeaf leaf ≡ whole = cc in
    rw (← same) good
good_whole GoodLeaf box (Parted n column at left right) whole splits good closed =
    sides_good GoodLeaf box column at (closed_of left) (closed_of right) whole closed splits.0
    (λ first is. good_whole GoodLeaf (left_of box column at) left first splits.1 good.0 is)
    (λ second is. good_whole GoodLeaf (right_of box column at) right second splits.2 good.1 is)
  where
    sides_good : (GoodLeaf : Ranges → Leaf → Type 0) (box : Ranges) (column : ℕ) (at : ℤ) (left right : Option Tree) (whole : Tree) → joined column at left right ≡ Some whole →
        IsSplit box column at → ((first : Tree) → left ≡ Some first → IsGood GoodLeaf (left_of box column at) first) →
        ((second : Tree) → right ≡ Some second → IsGood GoodLeaf (right_of box column at) second) → IsGood GoodLeaf box whole
    sides_good GoodLeaf box column at None right whole is split first second = absurd (cc)
    sides_good GoodLeaf box column at (Some l) None whole is split first second = absurd (cc)
    sides_good GoodLeaf box column at (Some l) (Some r) whole is split first second =
        let same : Split column at l r ≡ whole = cc in
        rw (← same) (split, first l refl, second r refl)
