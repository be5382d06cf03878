-- What becomes of a tree where another one is put in the place of an open leaf.
use Rattle.std.proofs.Common.{◌≡◌, inl, inr, refl, ℕ, ◌+◌, ◌*◌, ◌<◌, ◌≤◌, true, false, cond, eqb, ltb, ap, arith}
use Rattle.std.proofs.lemmas.Bool.{cases_Bool, cases_lt, eqb-true, le-ltb, lt-ltb}
use Rattle.sparse_program.specs.Box.{Ranges}
use Rattle.certificate_model.specs.Tree.{left_of, right_of}
use Rattle.branch_tree.specs.Boxes.{AreSplits, box_below}
use Rattle.branch_tree.specs.OpenTree.{Closed, Open, OpenTree, Parted, opens, replaced, size, times}

-- 1 where two numbers are the same, else 0
abbrev pub one : ℕ → ℕ → ℕ
one n k = cond (eqb n k) 1 0

-- an open leaf is a node
pub opens_times : (tree : OpenTree) (k : ℕ) → opens tree k ≤ times tree k
opens_times (Open n) k = omega arith
opens_times (Closed n leaf) k = omega arith
opens_times (Parted n column at left right) k = omega (arith, opens_times left k, opens_times right k)

-- the numbers of the nodes
pub times_replaced : (leaf k : ℕ) (new tree : OpenTree) →
    times (replaced leaf new tree) k + opens tree leaf * one leaf k ≡ times tree k + opens tree leaf * times new k
times_replaced leaf k new (Open n) =
    elim (cases_Bool (eqb n leaf)) [
      | inl e ↦ let same : n ≡ leaf = eqb-true n leaf e in rw e (rw same (omega arith))
      | inr e ↦ rw e (omega arith)
    ]
times_replaced leaf k new (Closed n closed) = omega arith
times_replaced leaf k new (Parted n column at left right) =
    let before = times_replaced leaf k new left in
    let after = times_replaced leaf k new right in
    omega (arith, before, after)

-- the open leaves
pub opens_replaced : (leaf k : ℕ) (new tree : OpenTree) →
    opens (replaced leaf new tree) k + opens tree leaf * one leaf k ≡ opens tree k + opens tree leaf * opens new k
opens_replaced leaf k new (Open n) =
    elim (cases_Bool (eqb n leaf)) [
      | inl e ↦ let same : n ≡ leaf = eqb-true n leaf e in rw e (rw same (omega arith))
      | inr e ↦ rw e (omega arith)
    ]
opens_replaced leaf k new (Closed n closed) = omega arith
opens_replaced leaf k new (Parted n column at left right) =
    let before = opens_replaced leaf k new left in
    let after = opens_replaced leaf k new right in
    omega (arith, before, after)

-- how many nodes there are
pub size_replaced : (leaf : ℕ) (new tree : OpenTree) → size (replaced leaf new tree) + opens tree leaf ≡ size tree + opens tree leaf * size new
size_replaced leaf new (Open n) =
    elim (cases_Bool (eqb n leaf)) [
      | inl e ↦ rw e (omega arith)
      | inr e ↦ rw e (omega arith)
    ]
size_replaced leaf new (Closed n closed) = omega arith
size_replaced leaf new (Parted n column at left right) =
    let before = size_replaced leaf new left in
    let after = size_replaced leaf new right in
    omega (arith, before, after)

-- the box of a node that stays: the new tree has its number where the leaf had it, and its box there is the leaf's
pub box_replaced : (leaf k : ℕ) (new : OpenTree) → times new k ≡ one leaf k → ((box : Ranges) → box_below box new k ≡ box) →
    (box : Ranges) (tree : OpenTree) → box_below box (replaced leaf new tree) k ≡ box_below box tree k
box_replaced leaf k new same here box (Open n) =
    elim (cases_Bool (eqb n leaf)) [
      | inl e ↦ rw e (here box)
      | inr e ↦ rw e
    ]
box_replaced leaf k new same here box (Closed n closed) = refl
box_replaced leaf k new same here box (Parted n column at left right) =
    let in_left : times (replaced leaf new left) k ≡ times left k = omega (arith, times_replaced leaf k new left, ap (λ m. opens left leaf * m) same) in
    let in_right : times (replaced leaf new right) k ≡ times right k = omega (arith, times_replaced leaf k new right, ap (λ m. opens right leaf * m) same) in
    rw (in_left, in_right, box_replaced leaf k new same here (left_of box column at) left, box_replaced leaf k new same here (right_of box column at) right)

-- the box of a new node is cut from the leaf's
pub box_replaced-new : (leaf k : ℕ) (new : OpenTree) → 0 < times new k → one leaf k ≡ 0 →
    (box : Ranges) (tree : OpenTree) → times tree k ≡ 0 → opens tree leaf ≡ 1 → times tree leaf ≡ 1 →
    box_below box (replaced leaf new tree) k ≡ box_below (box_below box tree leaf) new k
box_replaced-new leaf k new there apart box (Open n) fresh opened once =
    elim (cases_Bool (eqb n leaf)) [
      | inl e ↦ rw e
      | inr e ↦ absurd (let none = rw e at opened in omega (arith, none))
    ]
box_replaced-new leaf k new there apart box (Closed n closed) fresh opened once = absurd (omega (arith, opened))
box_replaced-new leaf k new there apart box (Parted n column at left right) fresh opened once =
    elim (cases_lt 0 (opens left leaf)) [
      | inl here ↦
          let left_open : opens left leaf ≡ 1 = omega (arith, opened) in
          let left_once : times left leaf ≡ 1 = omega (arith, opens_times left leaf, once) in
          let left_fresh : times left k ≡ 0 = omega (arith, fresh) in
          let in_left : ltb 0 (times left leaf) ≡ true = lt-ltb 0 (times left leaf) (omega arith) in
          let goes_left : ltb 0 (times (replaced leaf new left) k) ≡ true =
          lt-ltb 0 (times (replaced leaf new left) k) (omega (arith, rw (left_open, apart) at (times_replaced leaf k new left))) in
          rw (in_left, goes_left, box_replaced-new leaf k new there apart (left_of box column at) left left_fresh left_open left_once)
      | inr past ↦
          let left_shut : opens left leaf ≡ 0 = omega (arith, past) in
          let right_open : opens right leaf ≡ 1 = omega (arith, opened) in
          let right_once : times right leaf ≡ 1 = omega (arith, opens_times right leaf, once) in
          let left_none : times left leaf ≡ 0 = omega (arith, once) in
          let right_fresh : times right k ≡ 0 = omega (arith, fresh) in
          let not_left : ltb 0 (times left leaf) ≡ false = le-ltb 0 (times left leaf) (omega arith) in
          let in_right : ltb 0 (times right leaf) ≡ true = lt-ltb 0 (times right leaf) (omega arith) in
          let goes_past : ltb 0 (times (replaced leaf new left) k) ≡ false =
          le-ltb 0 (times (replaced leaf new left) k) (omega (arith, rw left_shut at (times_replaced leaf k new left))) in
          let goes_right : ltb 0 (times (replaced leaf new right) k) ≡ true =
          lt-ltb 0 (times (replaced leaf new right) k) (omega (arith, rw (right_open, apart) at (times_replaced leaf k new right))) in
          rw (not_left, in_right, goes_past, goes_right, box_replaced-new leaf k new there apart (right_of box column at) right right_fresh right_open right_once)
    ]

-- splits stay splits of their boxes where those of the new tree are splits of the leaf's box
pub splits_replaced : (leaf : ℕ) (new : OpenTree) (box : Ranges) (tree : OpenTree) → times tree leaf ≤ 1 →
    AreSplits box tree → (0 < opens tree leaf → AreSplits (box_below box tree leaf) new) → AreSplits box (replaced leaf new tree)
splits_replaced leaf new box (Open n) once splits below =
    elim (cases_Bool (eqb n leaf)) [
      | inl e ↦ rw e (below (rw e (omega arith)))
      | inr e ↦ rw e tt
    ]
splits_replaced leaf new box (Closed n closed) once splits below = tt
splits_replaced leaf new box (Parted n column at left right) once splits below = (
  splits.0,
  splits_replaced leaf new (left_of box column at) left (omega (arith, once)) splits.1
      (λ here.
      let in_left : ltb 0 (times left leaf) ≡ true = lt-ltb 0 (times left leaf) (omega (arith, opens_times left leaf, here)) in
      rw in_left at (below (omega (arith, here)))),
  splits_replaced leaf new (right_of box column at) right (omega (arith, once)) splits.2
      (λ here.
      let not_left : ltb 0 (times left leaf) ≡ false = le-ltb 0 (times left leaf) (omega (arith, opens_times right leaf, here, once)) in
      let in_right : ltb 0 (times right leaf) ≡ true = lt-ltb 0 (times right leaf) (omega (arith, opens_times right leaf, here)) in
      rw (not_left, in_right) at (below (omega (arith, here)))),
)
