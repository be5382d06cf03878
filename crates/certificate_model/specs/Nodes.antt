-- The nodes of a tree, from the top down (docs/certificate-file.md, "The text").
use Rattle.std.specs.Prelude.{ℕ, ℤ, List, [], ◌∷◌, ◌++◌}
use Rattle.sparse_program.specs.Box.{Ranges}
use Rattle.certificate_model.specs.Tree.{AtLeaf, Leaf, Split, Tree, left_of, right_of}

-- a node of a tree: a split without what stands below it, or a leaf
pub data Node : Type 0 where
  SplitNode : (column : ℕ) (at : ℤ) → Node
  LeafNode : (leaf : Leaf) → Node

-- the nodes of a tree: a split comes before what stands below it, and its left side before its right one
abbrev pub nodes_of : Tree → List Node
nodes_of (AtLeaf leaf) = LeafNode leaf ∷ []
nodes_of (Split column at left right) = SplitNode column at ∷ (nodes_of left ++ nodes_of right)

-- the boxes below a node in a box: those of both sides of a split, and none below a leaf
abbrev pub boxes_below : Ranges → Node → List Ranges
boxes_below box (SplitNode column at) = left_of box column at ∷ right_of box column at ∷ []
boxes_below box (LeafNode leaf) = []
