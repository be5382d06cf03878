-- The tree of a search without the numbers of its nodes (docs/search.md, "The tree"). A leaf that is still open has no number to give.
use Rattle.std.specs.Prelude.{◌⊎◌, ℕ, ◌+◌, ℤ, []}
use Rattle.ct_base.specs.declared.net.Net.{Net}
use Rattle.sparse_program.specs.Box.{Ranges}
use Rattle.certificate_model.specs.Tree as model
use Rattle.certificate_model.specs.Tree.{Tree, left_of, right_of}
use Rattle.branch_tree.specs.OpenTree.{Closed, Open, OpenTree, Parted}
use Rattle.search_model.specs.LeafNumbers.{GivesNumber}

-- the tree of a tree that grows: an open leaf stands as one that is closed by no price
abbrev pub shape_of : OpenTree → Tree
shape_of (Open n) = model.AtLeaf (model.Empty [])
shape_of (Closed n leaf) = model.AtLeaf leaf
shape_of (Parted n column at left right) = model.Split column at (shape_of left) (shape_of right)

-- a closed leaf gives the number
abbrev pub ClosedGives : Net → Ranges → OpenTree → ℤ → Type 0
ClosedGives net box (Open n) number = ⊥
ClosedGives net box (Closed n leaf) number = GivesNumber net box leaf number
ClosedGives net box (Parted n column at left right) number =
    ClosedGives net (left_of box column at) left number ⊎ ClosedGives net (right_of box column at) right number

-- how many leaves are open
abbrev pub open_leaves : OpenTree → ℕ
open_leaves (Open n) = 1
open_leaves (Closed n leaf) = 0
open_leaves (Parted n column at left right) = open_leaves left + open_leaves right
