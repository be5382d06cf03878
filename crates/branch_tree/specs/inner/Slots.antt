-- Nodes as they are kept: each in a slot, which knows how the node is entered from the one above it, and what became of it.
use Rattle.std.specs.Prelude.{◌≡◌, ℕ, zero, suc, ◌+◌, ◌<◌, ◌≤◌, ◌==◌, nat_lt, ℤ, if◌then◌else◌, Bool, true, false, List, length, slice_index_or}
use Rattle.sparse_program.specs.Box.{IsBox, Ranges, high_of, low_of}
use Rattle.branch_tree.specs.Boxes.{AreSplits, box_below}
use Rattle.branch_tree.specs.OpenTree.{Closed, Open, OpenTree, Parted, leaf_of, size, times}
use Rattle.branch_tree.specs.inner.Entries.{IsEntry, entered}
use Rattle.branch_tree.specs.declared.constants.TheConstants.{MAX_NODES}
use Rattle.branch_tree.specs.declared.slot.Entry.{Entry}
use Rattle.branch_tree.specs.declared.slot.Entry.TheVariants.{Left, Right, Root}
use Rattle.branch_tree.specs.declared.slot.Slot.{Slot}
use Rattle.branch_tree.specs.declared.slot.State.{State}
use Rattle.branch_tree.specs.declared.slot.State.TheVariants as state

-- what stands for a slot that is not there
abbrev pub no_slot : Slot
no_slot = record { parent = 0; entry = Root; state = state.Open }

-- the slot with a number
abbrev pub slot_of : List Slot → ℕ → Slot
slot_of slots n = slice_index_or slots n no_slot

-- a node in a state, above the trees of others
abbrev pub node_at : ℕ → State → (ℕ → OpenTree) → OpenTree
node_at n state.Open trees = Open n
node_at n (state.Closed leaf) trees = Closed n (leaf_of leaf)
node_at n (state.Split column at left) trees = Parted n column at (trees left) (trees (left + 1))

-- the tree of a node, so many levels deep
unfoldable pub tree_below : List Slot → ℕ → ℕ → OpenTree
tree_below slots zero n = Open n
tree_below slots (suc levels) n = node_at n (slot_of slots n).state (λ child. tree_below slots levels child)

-- the tree of the slots: no tree has more levels than nodes
abbrev pub tree_of : List Slot → OpenTree
tree_of slots = tree_below slots (length slots) 0

-- the box of a node
abbrev pub node_box : Ranges → List Slot → ℕ → Ranges
node_box root slots n = box_below root (tree_of slots) n

-- a node is an open leaf
abbrev pub is_open_state : State → Bool
is_open_state state.Open = true
is_open_state (state.Closed leaf) = false
is_open_state (state.Split column at left) = false

-- the slot of an open leaf
abbrev pub open_slot : ℕ → Entry → Slot
open_slot parent entry = record { parent = parent; entry = entry; state = state.Open }

-- the sides of a node come behind it
abbrev pub AreBehind : ℕ → ℕ → State → Type 0
AreBehind slots n state.Open = Unit {0}
AreBehind slots n (state.Closed leaf) = Unit {0}
AreBehind slots n (state.Split column at left) = (n < left) × (left + 1 < slots)

-- a slot of a tree: its sides come behind it and the node above it before it, and its box is entered from that node's
pub record IsSlot (root : Ranges) (tree : OpenTree) (count n : ℕ) (slot : Slot) : Type 0 where
  pub behind : AreBehind count n slot.state
  pub above : slot.parent ≤ n
  pub before : 0 < n → slot.parent < n
  pub there : slot.parent < count
  pub box : box_below root tree n ≡ entered slot.entry (box_below root tree slot.parent)
  pub entry : IsEntry (box_below root tree slot.parent) slot.entry

-- the slots are those of a tree with this box at its root
pub record AreSlots (root : Ranges) (slots : List Slot) : Type 0 where
  pub box : IsBox root
  pub some : 0 < length slots
  pub few : length slots ≤ MAX_NODES + 1
  pub size : size (tree_of slots) ≡ length slots
  pub numbers : (n : ℕ) → times (tree_of slots) n ≡ (if nat_lt n (length slots) then 1 else 0)
  pub top : box_below root (tree_of slots) 0 ≡ root
  pub splits : AreSplits root (tree_of slots)
  pub each : (n : ℕ) → n < length slots → IsSlot root (tree_of slots) (length slots) n (slot_of slots n)

-- no leaf before a number is open, and that one is, where it is there
pub record IsFirstOpen (slots : List Slot) (first : ℕ) : Type 0 where
  pub within : first ≤ length slots
  pub none_before : (n : ℕ) → n < first → is_open_state (slot_of slots n).state ≡ false
  pub opened : first < length slots → is_open_state (slot_of slots first).state ≡ true

-- what every tree keeps of its fields
pub record IsKept (root : Ranges) (slots : List Slot) (first : ℕ) : Type 0 where
  pub each : AreSlots root slots
  pub begins : IsFirstOpen slots first

-- the node so many steps above another
abbrev pub up : List Slot → ℕ → ℕ → ℕ
up slots zero n = n
up slots (suc steps) n = up slots steps (slot_of slots n).parent

-- a node is another one, or stands above it
abbrev pub IsAbove : List Slot → ℕ → ℕ → Type 0
IsAbove slots top n = (steps : ℕ) × (up slots steps n ≡ top)

-- what a split changes of the slots: the state of the leaf, and two slots more
pub record IsPart (root : Ranges) (slots after : List Slot) (leaf column : ℕ) (at : ℤ) : Type 0 where
  pub longer : length after ≡ length slots + 2
  pub others : (n : ℕ) → n < length slots → (n == leaf) ≡ false → slot_of after n ≡ slot_of slots n
  pub here : slot_of after leaf ≡ record (slot_of slots leaf) { state = state.Split column at (length slots) }
  pub left : slot_of after (length slots) ≡ open_slot leaf (Left column at (high_of (node_box root slots leaf) column))
  pub right : slot_of after (length slots + 1) ≡ open_slot leaf (Right column at (low_of (node_box root slots leaf) column))
