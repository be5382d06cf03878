-- The nodes of a tree from the top down, while they are moved out of their slots.
use Rattle.std.specs.Prelude.{◌≡◌, ℕ, ◌+◌, ◌<◌, ◌≤◌, List, [], ◌∷◌, ◌++◌, All, flat_map, length, map, slice_set}
use Rattle.certificate_model.specs.Nodes as model
use Rattle.cert_format.specs.Marks.{node_of}
use Rattle.cert_format.specs.declared.cert.Node.{Node}
use Rattle.branch_tree.specs.OpenTree.{Closed, Open, OpenTree, Parted, size, times}
use Rattle.branch_tree.specs.inner.Slots.{AreBehind, slot_of, tree_below}
use Rattle.branch_tree.specs.declared.slot.Slot.{Slot}
use Rattle.branch_tree.specs.declared.slot.State.TheVariants as state

-- the nodes of a tree: a split comes before what stands below it, and its left side before its right one; an open leaf is none
abbrev pub nodes_below : OpenTree → List model.Node
nodes_below (Open n) = []
nodes_below (Closed n leaf) = model.LeafNode leaf ∷ []
nodes_below (Parted n column at left right) = model.SplitNode column at ∷ (nodes_below left ++ nodes_below right)

-- the trees of some nodes
abbrev pub trees_of : List Slot → List ℕ → List OpenTree
trees_of slots numbers = map (λ n. tree_below slots (length slots) n) numbers

-- the sum of a number of each tree
abbrev pub total : (OpenTree → ℕ) → List OpenTree → ℕ
total f [] = 0
total f (tree ∷ trees) = f tree + total f trees

-- how many nodes wait below some nodes
abbrev pub work : List Slot → List ℕ → ℕ
work slots numbers = total size (trees_of slots numbers)

-- the sides of each node come behind it
abbrev pub AllBehind : List Slot → Type 0
AllBehind slots = (n : ℕ) → n < length slots → AreBehind (length slots) n (slot_of slots n).state

-- the slots where what became of a node was taken out
abbrev pub taken : List Slot → ℕ → List Slot
taken slots n = slice_set slots n (record (slot_of slots n) { state = state.Open })

-- what was written, and what stands below the nodes that wait, are all nodes
pub record IsUnderWay (all : List model.Node) (slots : List Slot) (waiting : List ℕ) (written : List Node) : Type 0 where
  pub behind : AllBehind slots
  pub there : All (λ n. n < length slots) waiting
  pub once : (k : ℕ) → total (λ (tree : OpenTree). times tree k) (trees_of slots waiting) ≤ 1
  pub nodes : map node_of written ++ flat_map nodes_below (trees_of slots waiting) ≡ all

-- one node more was written: less waits, and nothing was lost
pub record GoesOn (all : List model.Node) (slots after : List Slot) (waiting next : List ℕ) (written : List Node) : Type 0 where
  pub under_way : IsUnderWay all after next written
  pub less : work after next < work slots waiting
