-- Trees of boxes (docs/certificate.md, "The tree"). A split cuts a box in two at a value of a column; so the boxes of the leaves
-- cover the box of the whole tree.
use Rattle.std.specs.Prelude.{◌≡◌, ◌⊎◌, ℕ, ◌<◌, ℤ, pos, ◌+ℤ◌, ◌≤ℤ◌, ◌<ℤ◌, List, length, slice_set}
use Rattle.sparse_program.specs.Box.{Ranges, high_of, low_of}

-- why no better point lies in the box of a leaf: by the value of prices, since by their value the box is empty, or since the box
-- has one plan alone
pub data Leaf : Type 0 where
  Priced : (pairs : List (ℕ × ℤ)) → Leaf
  Empty : (pairs : List (ℕ × ℤ)) → Leaf
  Fixed : Leaf

-- a leaf, or a split at a value of a column with a tree on either side
pub data Tree : Type 0 where
  AtLeaf : (leaf : Leaf) → Tree
  Split : (column : ℕ) (at : ℤ) (left right : Tree) → Tree

-- the column exists, and its bounds leave both sides something
pub record IsSplit (box : Ranges) (column : ℕ) (at : ℤ) : Type 0 where
  pub there : column < length box.lows
  pub low : low_of box column ≤ℤ at
  pub high : at <ℤ high_of box column

-- the left side of a box: up to the value
abbrev pub left_of : Ranges → ℕ → ℤ → Ranges
left_of box column at = record box { highs = slice_set box.highs column at }

-- the right side: above it
abbrev pub right_of : Ranges → ℕ → ℤ → Ranges
right_of box column at = record box { lows = slice_set box.lows column (at +ℤ pos 1) }

-- each split is one of its box, and each leaf is good in its box
abbrev pub IsGood : (Ranges → Leaf → Type 0) → Ranges → Tree → Type 0
IsGood GoodLeaf box (AtLeaf leaf) = GoodLeaf box leaf
IsGood GoodLeaf box (Split column at left right) =
    IsSplit box column at × IsGood GoodLeaf (left_of box column at) left × IsGood GoodLeaf (right_of box column at) right

-- the leaf stands in the tree, and its box is cut from the tree's box by the splits above it
abbrev pub IsLeafOf : Ranges → Tree → Ranges → Leaf → Type 0
IsLeafOf box (AtLeaf here) inner leaf = (inner ≡ box) × (leaf ≡ here)
IsLeafOf box (Split column at left right) inner leaf =
    IsLeafOf (left_of box column at) left inner leaf ⊎ IsLeafOf (right_of box column at) right inner leaf
