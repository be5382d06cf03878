-- What becomes of the shape of a tree, of its open leaves and of what its closed leaves give, where another tree is put in the place of
-- an open leaf.
use Rattle.std.proofs.Common.{◌≡◌, inl, inr, refl, ℕ, ◌+◌, ◌*◌, ◌<◌, ◌≤◌, Bool, true, false, cond, eqb, ltb, ◌∙◌, ap, arith, ℤ, [], length}
use Rattle.std.proofs.lemmas.Bool.{cases_Bool, cases_lt, le-ltb, lt-ltb, ltb-true}
use Rattle.std.proofs.lemmas.List.{length-append}
use Rattle.ct_base.specs.declared.net.Net.{Net}
use Rattle.sparse_program.specs.Box.{Ranges}
use Rattle.certificate_model.specs.Nodes.{nodes_of}
use Rattle.certificate_model.specs.Tree.{Empty, IsLeafOf, Leaf, left_of, right_of}
use Rattle.branch_tree.specs.Boxes.{AreGood, Growing, IsGrowing, box_below}
use Rattle.branch_tree.specs.OpenTree.{Closed, Open, OpenTree, Parted, is_open, opens, replaced, size, times}
use Rattle.branch_tree.proofs.TreeLaws.{opens_times, size_replaced}
use Rattle.search_model.specs.LeafNumbers.{GivesNumber}
use Rattle.search_model.specs.Splits.{AreFirstSplits}
use Rattle.solve_core.specs.Shapes.{ClosedGives, open_leaves, shape_of}

-- ---- where a number stands

-- a number stands at most once
pub at_most_once : (growing : Growing) (k : ℕ) → IsGrowing growing → times growing.tree k ≤ 1
at_most_once growing k is =
    elim (cases_Bool (ltb k (size growing.tree))) [
      | inl below ↦ let counted : times growing.tree k ≡ 1 = is.numbers k ∙ ap (λ (b : Bool). cond b 1 0) below in omega (arith, counted)
      | inr past ↦ let counted : times growing.tree k ≡ 0 = is.numbers k ∙ ap (λ (b : Bool). cond b 1 0) past in omega (arith, counted)
    ]

-- so an open leaf with a number is the only one
pub opens_once : (growing : Growing) (leaf : ℕ) → IsGrowing growing → is_open growing.tree leaf ≡ true → opens growing.tree leaf ≡ 1
opens_once growing leaf is here =
    omega (arith, ltb-true 0 (opens growing.tree leaf) here, opens_times growing.tree leaf, at_most_once growing leaf is)

-- an open leaf on the left side of a split is found there, and one on the right side is not found on the left one
found_left : (left : OpenTree) (leaf : ℕ) → 0 < opens left leaf → ltb 0 (times left leaf) ≡ true
found_left left leaf here = lt-ltb 0 (times left leaf) (omega (arith, opens_times left leaf, here))

not_found_left : (left right : OpenTree) (leaf : ℕ) → times left leaf + times right leaf ≤ 1 → 0 < opens right leaf →
    ltb 0 (times left leaf) ≡ false
not_found_left left right leaf once here =
    le-ltb 0 (times left leaf) (omega (arith, opens_times right leaf, here, once))

-- ---- how many there are

-- a leaf that is closed makes no node
pub size_closed : (leaf : ℕ) (how : Leaf) (tree : OpenTree) → size (replaced leaf (Closed leaf how) tree) ≡ size tree
size_closed leaf how tree = omega (arith, size_replaced leaf (Closed leaf how) tree)

-- the open leaves, where another tree is put in the place of one
pub open_leaves_replaced : (leaf : ℕ) (new tree : OpenTree) →
    open_leaves (replaced leaf new tree) + opens tree leaf ≡ open_leaves tree + opens tree leaf * open_leaves new
open_leaves_replaced leaf new (Open n) =
    elim (cases_Bool (eqb n leaf)) [
      | inl e ↦ rw e (omega arith)
      | inr e ↦ rw e (omega arith)
    ]
open_leaves_replaced leaf new (Closed n closed) = omega arith
open_leaves_replaced leaf new (Parted n column at left right) =
    let before = open_leaves_replaced leaf new left in
    let after = open_leaves_replaced leaf new right in
    omega (arith, before, after)

-- an open leaf is one of them
pub opens_of_all : (tree : OpenTree) (leaf : ℕ) → opens tree leaf ≤ open_leaves tree
opens_of_all (Open n) leaf =
    elim (cases_Bool (eqb n leaf)) [
      | inl e ↦ rw e (omega arith)
      | inr e ↦ rw e (omega arith)
    ]
opens_of_all (Closed n closed) leaf = omega arith
opens_of_all (Parted n column at left right) leaf = omega (arith, opens_of_all left leaf, opens_of_all right leaf)

-- the shape has as many nodes as the tree
pub nodes_of_shape : (tree : OpenTree) → length (nodes_of (shape_of tree)) ≡ size tree
nodes_of_shape (Open n) = refl
nodes_of_shape (Closed n leaf) = refl
nodes_of_shape (Parted n column at left right) =
    let both = length-append (nodes_of (shape_of left)) (nodes_of (shape_of right)) in
    omega (arith, both, nodes_of_shape left, nodes_of_shape right)

-- ---- the shape

-- an open leaf stands in the shape, with its box
pub open_leaf_stands : (box : Ranges) (tree : OpenTree) (leaf : ℕ) → times tree leaf ≤ 1 → 0 < opens tree leaf →
    IsLeafOf box (shape_of tree) (box_below box tree leaf) (Empty [])
open_leaf_stands box (Open n) leaf once here = (refl, refl)
open_leaf_stands box (Closed n closed) leaf once here = absurd (omega (arith, here))
open_leaf_stands box (Parted n column at left right) leaf once here =
    elim (cases_lt 0 (opens left leaf)) [
      | inl in_left ↦
          inl (rw (found_left left leaf in_left) (open_leaf_stands (left_of box column at) left leaf (omega (arith, once)) in_left))
      | inr not_left ↦
          let in_right : 0 < opens right leaf = omega (arith, here, not_left) in
          inr (rw (not_found_left left right leaf (omega (arith, once)) in_right, found_left right leaf in_right)
          (open_leaf_stands (right_of box column at) right leaf (omega (arith, once)) in_right))
    ]

-- splits stay first splits where those of the new tree are first splits of the leaf's box
pub firsts_replaced : (net : Net) (leaf : ℕ) (new : OpenTree) (box : Ranges) (tree : OpenTree) → times tree leaf ≤ 1 →
    AreFirstSplits net box (shape_of tree) → (0 < opens tree leaf → AreFirstSplits net (box_below box tree leaf) (shape_of new)) →
    AreFirstSplits net box (shape_of (replaced leaf new tree))
firsts_replaced net leaf new box (Open n) once firsts below =
    elim (cases_Bool (eqb n leaf)) [
      | inl e ↦ rw e (below (rw e (omega arith)))
      | inr e ↦ rw e tt
    ]
firsts_replaced net leaf new box (Closed n closed) once firsts below = tt
firsts_replaced net leaf new box (Parted n column at left right) once firsts below = (
  firsts.0,
  firsts.1,
  firsts_replaced net leaf new (left_of box column at) left (omega (arith, once)) firsts.2
      (λ here. rw (found_left left leaf here) at (below (omega (arith, here)))),
  firsts_replaced net leaf new (right_of box column at) right (omega (arith, once)) firsts.3
      (λ here.
      rw (not_found_left left right leaf (omega (arith, once)) here, found_left right leaf here) at (below (omega (arith, here)))),
)

-- ---- what closed leaves give

-- a number that a closed leaf gives is given still
pub given_replaced : (net : Net) (leaf : ℕ) (new : OpenTree) (number : ℤ) (box : Ranges) (tree : OpenTree) →
    ClosedGives net box tree number → ClosedGives net box (replaced leaf new tree) number
given_replaced net leaf new number box (Open n) given = absurd given
given_replaced net leaf new number box (Closed n closed) given = given
given_replaced net leaf new number box (Parted n column at left right) (inl given) =
    inl (given_replaced net leaf new number (left_of box column at) left given)
given_replaced net leaf new number box (Parted n column at left right) (inr given) =
    inr (given_replaced net leaf new number (right_of box column at) right given)

-- and so is what a leaf gives that is closed
pub given_closed : (net : Net) (leaf : ℕ) (how : Leaf) (number : ℤ) (box : Ranges) (tree : OpenTree) → times tree leaf ≤ 1 →
    0 < opens tree leaf → GivesNumber net (box_below box tree leaf) how number →
    ClosedGives net box (replaced leaf (Closed leaf how) tree) number
given_closed net leaf how number box (Open n) once here gives =
    elim (cases_Bool (eqb n leaf)) [
      | inl e ↦ rw e gives
      | inr e ↦ absurd (let none = rw e at here in omega (arith, none))
    ]
given_closed net leaf how number box (Closed n closed) once here gives = absurd (omega (arith, here))
given_closed net leaf how number box (Parted n column at left right) once here gives =
    elim (cases_lt 0 (opens left leaf)) [
      | inl in_left ↦
          inl (given_closed net leaf how number (left_of box column at) left (omega (arith, once)) in_left
          (rw (found_left left leaf in_left) at gives))
      | inr not_left ↦
          let in_right : 0 < opens right leaf = omega (arith, here, not_left) in
          inr (given_closed net leaf how number (right_of box column at) right (omega (arith, once)) in_right
          (rw (not_found_left left right leaf (omega (arith, once)) in_right, found_left right leaf in_right) at gives))
    ]

-- ---- good leaves

-- closed leaves stay good where what makes a leaf good becomes less
pub good_for_less : (Good Better : Ranges → Leaf → Type 0) → ((box : Ranges) (leaf : Leaf) → Better box leaf → Good box leaf) →
    (box : Ranges) (tree : OpenTree) → AreGood Better box tree → AreGood Good box tree
good_for_less Good Better weaker box (Open n) good = tt
good_for_less Good Better weaker box (Closed n leaf) good = weaker box leaf good
good_for_less Good Better weaker box (Parted n column at left right) good =
    let in_left = good_for_less Good Better weaker (left_of box column at) left good.0 in
    let in_right = good_for_less Good Better weaker (right_of box column at) right good.1 in
    (in_left, in_right)
