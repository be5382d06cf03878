-- The leaves of a tree cover its box: each point of whole numbers goes left or right at each split, and so comes to a leaf.
use Rattle.std.proofs.Common.{◌≡◌, inl, inr, refl, ℕ, List, get_or, set, length, arith}
use Rattle.std.specs.Prelude.{ℤ, pos, ◌+ℤ◌, ◌≤ℤ◌, ◌<ℤ◌}
use Rattle.std.proofs.lemmas.Bool.{cases_eq, cases_lt}
use Rattle.std.proofs.lemmas.Int.{by_lt_z, ints}
use Rattle.std.proofs.lemmas.List.{get_or-set_other, get_or-set_same, set_past}
use Rattle.sparse_program.specs.Box.{Ranges}
use Rattle.certificate_model.specs.Tree.{AtLeaf, IsGood, IsLeafOf, Leaf, Split, Tree, left_of, right_of}
use Rattle.certificate_model.specs.Value.{IsInside}

-- a value that is put at a place stands there, or the place is past the end and nothing changes: so what holds of both holds
stays : (P : ℤ → Type 0) (values : List ℤ) (j column : ℕ) (new : ℤ) → P (get_or values j (pos 0)) → (j ≡ column → P new) → P (get_or (set values column new) j (pos 0))
stays P values j column new before there =
    elim (cases_eq j column) [
      | inl e ↦
          elim (cases_lt column (length values)) [
            | inl within ↦ rw e (rw (get_or-set_same values column new (pos 0) within) (there e))
            | inr past ↦ rw (set_past values column new past) before
          ]
      | inr ne ↦ rw (get_or-set_other values column j new (pos 0) ne) before
    ]

-- a point that is at most the value lies in the left side
goes_left : (columns : ℕ) (box : Ranges) (column : ℕ) (at : ℤ) (x : ℕ → ℤ) → IsInside columns box x → x column ≤ℤ at → IsInside columns (left_of box column at) x
goes_left columns box column at x inside below = λ j there.
    ((inside j there).0, stays (λ (high : ℤ). x j ≤ℤ high) box.highs j column at (inside j there).1 (λ same. rw same below))

-- and one above it in the right side
goes_right : (columns : ℕ) (box : Ranges) (column : ℕ) (at : ℤ) (x : ℕ → ℤ) → IsInside columns box x → at <ℤ x column → IsInside columns (right_of box column at) x
goes_right columns box column at x inside above = λ j there.
    let next : (at +ℤ pos 1) ≤ℤ x column = omega (arith, ints, above) in
    (stays (λ (low : ℤ). low ≤ℤ x j) box.lows j column (at +ℤ pos 1) (inside j there).0 (λ same. rw same next), (inside j there).1)

-- the leaf of a tree that a point in its box comes to
pub record LeafAt (columns : ℕ) (box : Ranges) (tree : Tree) (x : ℕ → ℤ) : Type 0 where
  pub inner : Ranges
  pub leaf : Leaf
  pub of : IsLeafOf box tree inner leaf
  pub inside : IsInside columns inner x

-- there is one, whatever the tree
pub leaf_at : (columns : ℕ) (box : Ranges) (tree : Tree) (x : ℕ → ℤ) → IsInside columns box x → LeafAt columns box tree x
leaf_at columns box (AtLeaf leaf) x inside = record { inner = box; leaf = leaf; of = (refl, refl); inside = inside }
leaf_at columns box (Split column at left right) x inside =
    by_lt_z at (x column)
    (λ above.
    let there : LeafAt columns (right_of box column at) right x = leaf_at columns (right_of box column at) right x (goes_right columns box column at x inside above) in
    record { inner = there.inner; leaf = there.leaf; of = inr there.of; inside = there.inside })
    (λ below.
    let there : LeafAt columns (left_of box column at) left x = leaf_at columns (left_of box column at) left x (goes_left columns box column at x inside below) in
    record { inner = there.inner; leaf = there.leaf; of = inl there.of; inside = there.inside })

-- each leaf of a good tree is good in its box, whatever makes a leaf good
pub leaf_is_good : (GoodLeaf : Ranges → Leaf → Type 0) (box : Ranges) (tree : Tree) (inner : Ranges) (leaf : Leaf) → IsGood GoodLeaf box tree → IsLeafOf box tree inner leaf → GoodLeaf inner leaf
leaf_is_good GoodLeaf box (AtLeaf here) inner leaf good of = rw of.0 (rw of.1 good)
leaf_is_good GoodLeaf box (Split column at left right) inner leaf good (inl of) = leaf_is_good GoodLeaf (left_of box column at) left inner leaf good.1 of
leaf_is_good GoodLeaf box (Split column at left right) inner leaf good (inr of) = leaf_is_good GoodLeaf (right_of box column at) right inner leaf good.2 of
