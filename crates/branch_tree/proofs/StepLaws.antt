-- What the code makes of the slots, as a split or a closing of the tree.
use Rattle.std.proofs.Common.{◌≡◌, ℕ, ◌+◌, ◌<◌, ◌≤◌, true, false, eqb, List, [], ◌∷◌, ◌++◌, length, length-append, length-set, set, ◌∙◌, sym, ap, subst, arith, ℤ, inl, inr}
use Rattle.std.proofs.lemmas.Bool.{cases_Bool, eqb-true, eqb-false}
use Rattle.std.proofs.lemmas.List.{get_or-append-add, get_or_append_left, get_or-set_other, get_or-set_same}
use Rattle.std.proofs.Math.Seq.{get_or-append_seam}
use Rattle.sparse_program.specs.Box.{Ranges, high_of, low_of}
use Rattle.certificate_model.specs.Tree.{IsSplit}
use Rattle.branch_tree.specs.Boxes.{Growing, box_of, closed_at, split_at}
use Rattle.branch_tree.specs.OpenTree.{Closed, OpenTree, is_open, leaf_of, parted, replaced, size}
use Rattle.branch_tree.specs.inner.Slots.{IsFirstOpen, IsKept, IsPart, is_open_state, no_slot, node_box, open_slot, slot_of, tree_of}
use Rattle.branch_tree.specs.declared.constants.TheConstants.{MAX_NODES}
use Rattle.branch_tree.specs.declared.leaf.Leaf.{Leaf}
use Rattle.branch_tree.specs.declared.slot.Entry.TheVariants.{Left, Right}
use Rattle.branch_tree.specs.declared.slot.Slot.{Slot}
use Rattle.branch_tree.specs.declared.slot.State.{State}
use Rattle.branch_tree.specs.declared.slot.State.TheVariants as state
use Rattle.branch_tree.proofs.BoxLaws.{lows_long}
use Rattle.branch_tree.proofs.GrowLaws.{IsClosing, IsOpenSlot, closing_gives, closing_keeps, open_leaf, part_gives, part_keeps}

-- the slots with the two sides of a leaf behind them
abbrev pub with_sides : List Slot → ℕ → ℕ → ℤ → ℤ → ℤ → List Slot
with_sides slots leaf column at low high = slots ++ open_slot leaf (Left column at high) ∷ open_slot leaf (Right column at low) ∷ []

-- the slots where a node has another state
abbrev pub with_state : List Slot → ℕ → State → List Slot
with_state slots n here = set slots n (record (slot_of slots n) { state = here })

-- a slot of before is there where others come behind
slot_before : (slots : List Slot) (leaf column : ℕ) (at low high : ℤ) (n : ℕ) → n < length slots → slot_of (with_sides slots leaf column at low high) n ≡ slot_of slots n
slot_before slots leaf column at low high n there =
    get_or_append_left slots (open_slot leaf (Left column at high) ∷ open_slot leaf (Right column at low) ∷ []) no_slot n there

-- the code splits a leaf
pub is_part : (root : Ranges) (slots middle after : List Slot) (leaf column : ℕ) (at low high : ℤ) → leaf < length slots →
    low ≡ low_of (node_box root slots leaf) column → high ≡ high_of (node_box root slots leaf) column →
    middle ≡ with_sides slots leaf column at low high → after ≡ with_state middle leaf (state.Split column at (length slots)) →
    IsPart root slots after leaf column at
is_part root slots middle after leaf column at low high there low_is high_is middle_is after_is =
    let here = open_slot leaf (Left column at high) in
    let next = open_slot leaf (Right column at low) in
    let long : length middle ≡ length slots + 2 = ap length middle_is ∙ length-append slots (here ∷ next ∷ []) in
    let same : slot_of middle leaf ≡ slot_of slots leaf = ap (λ (items : List Slot). slot_of items leaf) middle_is ∙ slot_before slots leaf column at low high leaf there in
    let new : Slot = record (slot_of middle leaf) { state = state.Split column at (length slots) } in
    let elsewhere : (n : ℕ) → eqb n leaf ≡ false → slot_of after n ≡ slot_of middle n =
    λ n apart. ap (λ (items : List Slot). slot_of items n) after_is ∙ get_or-set_other middle leaf n new no_slot (eqb-false n leaf apart) in
    let first : slot_of middle (length slots) ≡ here = ap (λ (items : List Slot). slot_of items (length slots)) middle_is ∙ get_or-append_seam slots here (next ∷ []) no_slot in
    let second : slot_of middle (length slots + 1) ≡ next = ap (λ (items : List Slot). slot_of items (length slots + 1)) middle_is ∙ get_or-append-add slots (here ∷ next ∷ []) 1 no_slot in
    record {
      longer = ap length after_is ∙ length-set middle leaf new ∙ long;
      others = λ n within apart. elsewhere n apart ∙ ap (λ (items : List Slot). slot_of items n) middle_is ∙ slot_before slots leaf column at low high n within;
      here =
          ap (λ (items : List Slot). slot_of items leaf) after_is ∙ get_or-set_same middle leaf new no_slot (omega (arith, long, there))
          ∙ ap (λ (slot : Slot). let made : Slot = record slot { state = state.Split column at (length slots) } in made) same;
      left =
          elsewhere (length slots) (apart_from (length slots) leaf (λ e. omega (arith, e, there))) ∙ first
          ∙ ap (λ (h : ℤ). open_slot leaf (Left column at h)) high_is;
      right =
          elsewhere (length slots + 1) (apart_from (length slots + 1) leaf (λ e. omega (arith, e, there))) ∙ second
          ∙ ap (λ (l : ℤ). open_slot leaf (Right column at l)) low_is;
    }
  where
    apart_from : (n k : ℕ) → (n ≡ k → ⊥) → eqb n k ≡ false
    apart_from n k differ = elim (cases_Bool (eqb n k)) [ inl e ↦ absurd (differ (eqb-true n k e)) | inr e ↦ e ]

-- the code closes a leaf
pub is_closing : (slots after : List Slot) (leaf : ℕ) (how : Leaf) → leaf < length slots → after ≡ with_state slots leaf (state.Closed how) → IsClosing slots after leaf how
is_closing slots after leaf how there after_is =
    let new : Slot = record (slot_of slots leaf) { state = state.Closed how } in
    record {
      long = ap length after_is ∙ length-set slots leaf new;
      others = λ n within apart. ap (λ (items : List Slot). slot_of items n) after_is ∙ get_or-set_other slots leaf n new no_slot (eqb-false n leaf apart);
      here = ap (λ (items : List Slot). slot_of items leaf) after_is ∙ get_or-set_same slots leaf new no_slot there;
    }

-- no leaf before a number is open where none was and a slot is changed to one that is not
pub still_none : (slots after : List Slot) (leaf first : ℕ) → first ≤ length slots → ((n : ℕ) → n < length slots → eqb n leaf ≡ false → slot_of after n ≡ slot_of slots n) →
    is_open_state (slot_of after leaf).state ≡ false → ((n : ℕ) → n < first → is_open_state (slot_of slots n).state ≡ false) →
    (n : ℕ) → n < first → is_open_state (slot_of after n).state ≡ false
still_none slots after leaf first within others closed before n there =
    elim (cases_Bool (eqb n leaf)) [
      | inl e ↦ rw (eqb-true n leaf e) closed
      | inr apart ↦ rw (others n (omega (arith, there, within)) apart) (before n there)
    ]

-- what is known of a leaf of a kept tree
pub open_in : (root : Ranges) (slots : List Slot) (first leaf : ℕ) (growing : Growing) → IsKept root slots first →
    (let view : Growing = record { root = root; tree = tree_of slots } in view ≡ growing) → is_open growing.tree leaf ≡ true → IsOpenSlot slots leaf
open_in root slots first leaf growing kept view is = open_leaf root slots leaf kept.each (ap (λ (g : Growing). is_open g.tree leaf) view ∙ is)

-- what a contract sees of a tree that has changed
pub grown_is : (root same : Ranges) (slots after : List Slot) (growing : Growing) (f : OpenTree → OpenTree) → same ≡ root → tree_of after ≡ f (tree_of slots) →
    (let view : Growing = record { root = root; tree = tree_of slots } in view ≡ growing) →
    (let grown : Growing = record { root = same; tree = tree_of after } in
    let wanted : Growing = record { root = growing.root; tree = f growing.tree } in
    grown ≡ wanted)
grown_is root same slots after growing f same_root gives view =
    rw (same_root, gives) (ap (λ (g : Growing). let grown : Growing = record { root = g.root; tree = f g.tree } in grown) view)

-- a tree that is closed at a leaf is kept
pub closing_is_kept : (root same : Ranges) (slots after : List Slot) (first next leaf : ℕ) (how : Leaf) (growing : Growing) → IsKept root slots first →
    (let view : Growing = record { root = root; tree = tree_of slots } in view ≡ growing) → is_open growing.tree leaf ≡ true →
    same ≡ root → after ≡ with_state slots leaf (state.Closed how) → IsFirstOpen after next → IsKept same after next
closing_is_kept root same slots after first next leaf how growing kept view is same_root after_is begins =
    let here = open_in root slots first leaf growing kept view is in
    record {
      each = rw same_root (closing_keeps root slots after leaf how kept.each here (is_closing slots after leaf how here.there after_is));
      begins = begins;
    }

-- and what a contract sees of it
pub closing_is_seen : (root same : Ranges) (slots after : List Slot) (first leaf : ℕ) (how : Leaf) (growing : Growing) → IsKept root slots first →
    (let view : Growing = record { root = root; tree = tree_of slots } in view ≡ growing) → is_open growing.tree leaf ≡ true →
    same ≡ root → after ≡ with_state slots leaf (state.Closed how) →
    (let grown : Growing = record { root = same; tree = tree_of after } in grown ≡ closed_at growing leaf (leaf_of how))
closing_is_seen root same slots after first leaf how growing kept view is same_root after_is =
    let here = open_in root slots first leaf growing kept view is in
    grown_is root same slots after growing (replaced leaf (Closed leaf (leaf_of how))) same_root
    (closing_gives root slots after leaf how kept.each here (is_closing slots after leaf how here.there after_is)) view

-- before the first open leaf there is none where one is closed
pub closing_leaves_none : (root : Ranges) (slots after : List Slot) (first leaf : ℕ) (how : Leaf) (growing : Growing) → IsKept root slots first →
    (let view : Growing = record { root = root; tree = tree_of slots } in view ≡ growing) → is_open growing.tree leaf ≡ true →
    after ≡ with_state slots leaf (state.Closed how) → (n : ℕ) → n < first → is_open_state (slot_of after n).state ≡ false
closing_leaves_none root slots after first leaf how growing kept view is after_is =
    let here = open_in root slots first leaf growing kept view is in
    let closing = is_closing slots after leaf how here.there after_is in
    still_none slots after leaf first kept.begins.within closing.others (ap (λ (slot : Slot). is_open_state slot.state) closing.here) kept.begins.none_before

-- there is a node for each slot
pub sized : (root : Ranges) (slots : List Slot) (first : ℕ) (growing : Growing) → IsKept root slots first →
    (let view : Growing = record { root = root; tree = tree_of slots } in view ≡ growing) → size growing.tree ≡ length slots
sized root slots first growing kept view = ap (λ (g : Growing). size g.tree) (sym view) ∙ kept.each.size

-- what a split needs to be one
pub record CanPart (root : Ranges) (slots : List Slot) (first leaf column : ℕ) (at : ℤ) (growing : Growing) : Type 0 where
  pub kept : IsKept root slots first
  pub view : (let view : Growing = record { root = root; tree = tree_of slots } in view ≡ growing)
  pub is : is_open growing.tree leaf ≡ true
  pub split : IsSplit (box_of growing leaf) column at
  pub few : size growing.tree < MAX_NODES

-- the column is there
pub column_there : (root : Ranges) (slots : List Slot) (first leaf column : ℕ) (at : ℤ) (growing : Growing) → CanPart root slots first leaf column at growing →
    column < length root.lows
column_there root slots first leaf column at growing can =
    let split = subst (λ (g : Growing). IsSplit (box_of g leaf) column at) (sym can.view) can.split in
    let within : column < length (node_box root slots leaf).lows = split.there in
    omega (arith, within, lows_long root (tree_of slots) leaf)

-- a tree that is split at a leaf is kept, and what a contract sees of it
pub record Parts (root same : Ranges) (slots after : List Slot) (first next leaf column : ℕ) (at : ℤ) (growing : Growing) : Type 0 where
  pub kept : IsKept same after next
  pub seen : (let grown : Growing = record { root = same; tree = tree_of after } in grown ≡ split_at growing leaf column at)

pub parts : (root same : Ranges) (slots after : List Slot) (first next leaf column : ℕ) (at : ℤ) (growing : Growing) →
    CanPart root slots first leaf column at growing → IsPart root slots after leaf column at → same ≡ root → IsFirstOpen after next →
    Parts root same slots after first next leaf column at growing
parts root same slots after first next leaf column at growing can part same_root begins =
    let here = open_in root slots first leaf growing can.kept can.view can.is in
    let split : IsSplit (node_box root slots leaf) column at = subst (λ (g : Growing). IsSplit (box_of g leaf) column at) (sym can.view) can.split in
    let few : size (tree_of slots) < MAX_NODES = subst (λ (g : Growing). size g.tree < MAX_NODES) (sym can.view) can.few in
    record {
      kept = record {
        each = rw same_root (part_keeps root slots after leaf column at can.kept.each here (omega (arith, few, can.kept.each.size)) split part);
        begins = begins;
      };
      seen =
          subst (λ (n : ℕ). let grown : Growing = record { root = same; tree = tree_of after } in
          let wanted : Growing = record growing { tree = replaced leaf (parted leaf column at (n, n + 1)) growing.tree } in
          grown ≡ wanted) (sym (sized root slots first growing can.kept can.view))
          (grown_is root same slots after growing (replaced leaf (parted leaf column at (length slots, length slots + 1))) same_root
          (part_gives root slots after leaf column at can.kept.each here part) can.view);
    }

-- before the first open leaf there is none where one is split
pub parting_leaves_none : (root : Ranges) (slots after : List Slot) (first leaf column : ℕ) (at : ℤ) (growing : Growing) →
    CanPart root slots first leaf column at growing → IsPart root slots after leaf column at → (n : ℕ) → n < first → is_open_state (slot_of after n).state ≡ false
parting_leaves_none root slots after first leaf column at growing can part =
    still_none slots after leaf first can.kept.begins.within part.others (ap (λ (slot : Slot). is_open_state slot.state) part.here) can.kept.begins.none_before
