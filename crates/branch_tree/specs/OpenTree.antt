-- A tree of boxes that grows (docs/certificate.md, "The tree"): its nodes are numbered, and a leaf is open until it is closed.
use Rattle.std.specs.Prelude.{ℕ, ◌+◌, ◌==◌, nat_lt, ℤ, if◌then◌else◌, Bool, Option, Some, None}
use Rattle.certificate_model.specs.Tree.{AtLeaf, Split, Tree}
use Rattle.certificate_model.specs.Tree as model
use Rattle.branch_tree.specs.declared.leaf.Leaf.{Leaf}
use Rattle.branch_tree.specs.declared.leaf.Leaf.TheVariants.{Priced, Empty, Fixed}

-- an open leaf, a closed one, or a split at a value of a column with a tree on either side
pub data OpenTree : Type 0 where
  Open : (number : ℕ) → OpenTree
  Closed : (number : ℕ) (leaf : model.Leaf) → OpenTree
  Parted : (number column : ℕ) (at : ℤ) (left right : OpenTree) → OpenTree

-- how many nodes there are
abbrev pub size : OpenTree → ℕ
size (Open n) = 1
size (Closed n leaf) = 1
size (Parted n column at left right) = 1 + size left + size right

-- how many nodes have a number
abbrev pub times : OpenTree → ℕ → ℕ
times (Open n) k = if n == k then 1 else 0
times (Closed n leaf) k = if n == k then 1 else 0
times (Parted n column at left right) k = (if n == k then 1 else 0) + times left k + times right k

-- how many open leaves have it
abbrev pub opens : OpenTree → ℕ → ℕ
opens (Open n) k = if n == k then 1 else 0
opens (Closed n leaf) k = 0
opens (Parted n column at left right) k = opens left k + opens right k

-- a node has the number
abbrev pub has : OpenTree → ℕ → Bool
has tree k = nat_lt 0 (times tree k)

-- an open leaf has it
abbrev pub is_open : OpenTree → ℕ → Bool
is_open tree k = nat_lt 0 (opens tree k)

-- the tree with another one in the place of an open leaf
abbrev pub replaced : ℕ → OpenTree → OpenTree → OpenTree
replaced leaf new (Open n) = if n == leaf then new else Open n
replaced leaf new (Closed n closed) = Closed n closed
replaced leaf new (Parted n column at left right) = Parted n column at (replaced leaf new left) (replaced leaf new right)

-- a split with two open leaves
abbrev pub parted : ℕ → ℕ → ℤ → ℕ × ℕ → OpenTree
parted leaf column at sides = Parted leaf column at (Open sides.0) (Open sides.1)

-- how a leaf is closed, as certificates see it
abbrev pub leaf_of : Leaf → model.Leaf
leaf_of (Priced pairs) = model.Priced pairs
leaf_of (Empty pairs) = model.Empty pairs
leaf_of Fixed = model.Fixed

-- a split of two trees, where both are there
abbrev pub joined : ℕ → ℤ → Option Tree → Option Tree → Option Tree
joined column at (Some left) (Some right) = Some (Split column at left right)
joined column at _ _ = None

-- the tree without its numbers, where no leaf is open
abbrev pub closed_of : OpenTree → Option Tree
closed_of (Open n) = None
closed_of (Closed n leaf) = Some (AtLeaf leaf)
closed_of (Parted n column at left right) = joined column at (closed_of left) (closed_of right)
