-- The boxes of the nodes of a tree that grows.
use Rattle.std.specs.Prelude.{◌≡◌, ℕ, ◌+◌, ◌≤◌, nat_lt, ℤ, if◌then◌else◌, map, Some}
use Rattle.sparse_program.specs.Box.{IsBox, Ranges}
use Rattle.certificate_model.specs.Nodes.{nodes_of}
use Rattle.certificate_model.specs.Tree.{IsSplit, Leaf, Tree, left_of, right_of}
use Rattle.cert_format.specs.Marks.{node_of}
use Rattle.cert_format.specs.declared.cert.Cert.{Cert}
use Rattle.branch_tree.specs.OpenTree.{Closed, Open, OpenTree, Parted, closed_of, has, parted, replaced, size, times}
use Rattle.branch_tree.specs.declared.constants.TheConstants.{MAX_NODES}

-- a tree, and the box of its root
pub record Growing : Type 0 where
  pub root : Ranges
  pub tree : OpenTree

-- the box of the node with a number in a tree whose root has a box: it is cut from that by the splits above the node
abbrev pub box_below : Ranges → OpenTree → ℕ → Ranges
box_below box (Open n) k = box
box_below box (Closed n leaf) k = box
box_below box (Parted n column at left right) k =
    if has left k then box_below (left_of box column at) left k else
    (if has right k then box_below (right_of box column at) right k else box)

-- the box of the node with a number
abbrev pub box_of : Growing → ℕ → Ranges
box_of growing k = box_below growing.root growing.tree k

-- an open leaf is split: its sides are open leaves, which have the next numbers
abbrev pub split_at : Growing → ℕ → ℕ → ℤ → Growing
split_at growing leaf column at =
    record growing { tree = replaced leaf (parted leaf column at (size growing.tree, size growing.tree + 1)) growing.tree }

-- an open leaf is closed
abbrev pub closed_at : Growing → ℕ → Leaf → Growing
closed_at growing leaf how = record growing { tree = replaced leaf (Closed leaf how) growing.tree }

-- each split is one of its box
abbrev pub AreSplits : Ranges → OpenTree → Type 0
AreSplits box (Open n) = Unit {0}
AreSplits box (Closed n leaf) = Unit {0}
AreSplits box (Parted n column at left right) =
    IsSplit box column at × AreSplits (left_of box column at) left × AreSplits (right_of box column at) right

-- each closed leaf is good in its box
abbrev pub AreGood : (Ranges → Leaf → Type 0) → Ranges → OpenTree → Type 0
AreGood GoodLeaf box (Open n) = Unit {0}
AreGood GoodLeaf box (Closed n leaf) = GoodLeaf box leaf
AreGood GoodLeaf box (Parted n column at left right) = AreGood GoodLeaf (left_of box column at) left × AreGood GoodLeaf (right_of box column at) right

-- what every tree keeps: its nodes have the numbers from 0 on, one each, and its splits are those of their boxes
pub record IsGrowing (growing : Growing) : Type 0 where
  pub root : IsBox growing.root
  pub numbers : (n : ℕ) → times growing.tree n ≡ (if nat_lt n (size growing.tree) then 1 else 0)
  pub few : size growing.tree ≤ MAX_NODES + 1
  pub splits : AreSplits growing.root growing.tree

-- the certificate of a bound and of the whole tree
pub record IsCertOf (tree : OpenTree) (bound : ℤ) (cert : Cert) : Type 0 where
  pub whole : Tree
  pub closed : closed_of tree ≡ Some whole
  pub shows : cert.bound ≡ bound
  pub nodes : map node_of cert.nodes ≡ nodes_of whole
