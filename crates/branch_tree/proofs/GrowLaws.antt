-- A tree that grows: an open leaf is split, or it is closed.
use Rattle.std.proofs.Common.{◌≡◌, inl, inr, refl, ℕ, zero, suc, ◌+◌, ◌<◌, ◌≤◌, Bool, true, false, cond, eqb, ltb, List, [], ◌∷◌, length, ◌∙◌, sym, ap, arith, ℤ}
use Rattle.std.proofs.lemmas.Bool.{cases_Bool, cases_eq, cases_lt, cases_order, eq-eqb, eqb-true, le-ltb, lt-ltb, ltb-true, ne_eqb}
use Rattle.sparse_program.specs.Box.{IsBox, Ranges}
use Rattle.certificate_model.specs.Tree.{IsSplit, left_of, right_of}
use Rattle.branch_tree.specs.Boxes.{box_below}
use Rattle.branch_tree.specs.OpenTree.{Closed, Open, OpenTree, is_open, leaf_of, opens, parted, replaced, times}
use Rattle.branch_tree.specs.inner.Slots.{AreBehind, AreSlots, IsKept, IsPart, IsSlot, is_open_state, open_slot, slot_of, tree_below, tree_of}
use Rattle.branch_tree.specs.declared.constants.TheConstants.{MAX_NODES}
use Rattle.branch_tree.specs.declared.leaf.Leaf.{Leaf}
use Rattle.branch_tree.specs.declared.slot.Entry.TheVariants.{Root}
use Rattle.branch_tree.specs.declared.slot.Slot.{Slot}
use Rattle.branch_tree.specs.declared.slot.State.{State}
use Rattle.branch_tree.specs.declared.slot.State.TheVariants as state
use Rattle.branch_tree.proofs.SlotLaws.{opens_tree, tree_changed}
use Rattle.branch_tree.proofs.TreeLaws.{box_replaced, box_replaced-new, one, opens_times, size_replaced, splits_replaced, times_replaced}

-- ---- what is known of an open leaf

-- a state that is open
open_is : (here : State) → is_open_state here ≡ true → here ≡ state.Open
open_is state.Open is = refl
open_is (state.Closed how) is = absurd (cc)
open_is (state.Split column at left) is = absurd (cc)

-- where a leaf is open in the tree, its slot is there and open, and it stands once
pub record IsOpenSlot (slots : List Slot) (leaf : ℕ) : Type 0 where
  pub there : leaf < length slots
  pub state : (slot_of slots leaf).state ≡ state.Open
  pub opens : opens (tree_of slots) leaf ≡ 1
  pub times : times (tree_of slots) leaf ≡ 1

-- the numbers that the tree has
pub reached : (root : Ranges) (slots : List Slot) (k : ℕ) → AreSlots root slots → 0 < times (tree_of slots) k → k < length slots
reached root slots k kept some =
    elim (cases_lt k (length slots)) [
      | inl there ↦ there
      | inr past ↦
          let none : times (tree_of slots) k ≡ 0 = kept.numbers k ∙ ap (λ (b : Bool). cond b 1 0) (le-ltb k (length slots) past) in
          absurd (omega arith)
    ]

-- each number below the count stands once
pub once : (root : Ranges) (slots : List Slot) (k : ℕ) → AreSlots root slots → k < length slots → times (tree_of slots) k ≡ 1
once root slots k kept there = kept.numbers k ∙ ap (λ (b : Bool). cond b 1 0) (lt-ltb k (length slots) there)

-- the open leaves are the slots that are open
pub opens_of : (root : Ranges) (slots : List Slot) (k : ℕ) → AreSlots root slots → opens (tree_of slots) k ≡ cond (is_open_state (slot_of slots k).state) (times (tree_of slots) k) 0
opens_of root slots k kept = opens_tree slots (λ n there. (kept.each n there).behind) k (length slots) 0 kept.some (omega arith)

-- an open leaf of the tree
pub open_leaf : (root : Ranges) (slots : List Slot) (leaf : ℕ) → AreSlots root slots → is_open (tree_of slots) leaf ≡ true → IsOpenSlot slots leaf
open_leaf root slots leaf kept is =
    let some : 0 < opens (tree_of slots) leaf = ltb-true 0 (opens (tree_of slots) leaf) is in
    let counted = opens_of root slots leaf kept in
    elim (cases_Bool (is_open_state (slot_of slots leaf).state)) [
      | inl here ↦
          let same : opens (tree_of slots) leaf ≡ times (tree_of slots) leaf = counted ∙ ap (λ (b : Bool). cond b (times (tree_of slots) leaf) 0) here in
          let there : leaf < length slots = reached root slots leaf kept (omega arith) in
          let stands = once root slots leaf kept there in
          record { there = there; state = open_is (slot_of slots leaf).state here; opens = same ∙ stands; times = stands }
      | inr closed ↦
          let none : opens (tree_of slots) leaf ≡ 0 = counted ∙ ap (λ (b : Bool). cond b (times (tree_of slots) leaf) 0) closed in
          absurd (omega arith)
    ]

-- ---- an open leaf is split

-- the tree of a split
abbrev pub sides : List Slot → ℕ → ℕ → ℤ → OpenTree
sides slots leaf column at = parted leaf column at (length slots, length slots + 1)

-- the two sides are open
sides_of : (slots after : List Slot) (leaf column : ℕ) (at : ℤ) (g : ℕ) → length after ≡ length slots + 2 → leaf < length slots → length after ≤ leaf + suc g →
    (slot_of after leaf).state ≡ state.Split column at (length slots) → (slot_of after (length slots)).state ≡ state.Open → (slot_of after (length slots + 1)).state ≡ state.Open →
    tree_below after (suc g) leaf ≡ sides slots leaf column at
unfolding tree_below
sides_of slots after leaf column at zero long there levels here left right = absurd (omega arith)
sides_of slots after leaf column at (suc g) long there levels here left right =
    rw here (rw (left, right) refl)

-- the tree that it gives
pub part_gives : (root : Ranges) (slots after : List Slot) (leaf column : ℕ) (at : ℤ) → AreSlots root slots → IsOpenSlot slots leaf →
    IsPart root slots after leaf column at → tree_of after ≡ replaced leaf (sides slots leaf column at) (tree_of slots)
part_gives root slots after leaf column at kept leaf_open part =
    tree_changed slots after leaf (sides slots leaf column at) (λ n there. (kept.each n there).behind) (omega (arith, part.longer))
    (λ n there apart. ap (λ (slot : Slot). slot.state) (part.others n there apart))
    leaf_open.state
    (λ g levels. sides_of slots after leaf column at g part.longer leaf_open.there levels (ap (λ (slot : Slot). slot.state) part.here)
    (ap (λ (slot : Slot). slot.state) part.left) (ap (λ (slot : Slot). slot.state) part.right))
    (length slots) (length after) 0 kept.some (omega arith) (omega arith)

-- the box of a node that was there before
part_box : (root : Ranges) (slots after : List Slot) (leaf column : ℕ) (at : ℤ) (k : ℕ) → AreSlots root slots → IsOpenSlot slots leaf →
    IsPart root slots after leaf column at → k < length slots → box_below root (tree_of after) k ≡ box_below root (tree_of slots) k
part_box root slots after leaf column at k kept leaf_open part there =
    let not_left : eqb (length slots) k ≡ false = ne_eqb (length slots) k (λ same. omega arith) in
    let not_right : eqb (length slots + 1) k ≡ false = ne_eqb (length slots + 1) k (λ same. omega arith) in
    rw (part_gives root slots after leaf column at kept leaf_open part)
    (box_replaced leaf k (sides slots leaf column at) (rw (not_left, not_right) (omega arith)) (λ box. rw (not_left, not_right) refl) root (tree_of slots))

-- the boxes of the sides
part_left : (root : Ranges) (slots after : List Slot) (leaf column : ℕ) (at : ℤ) → AreSlots root slots → IsOpenSlot slots leaf →
    IsPart root slots after leaf column at → box_below root (tree_of after) (length slots) ≡ left_of (box_below root (tree_of slots) leaf) column at
part_left root slots after leaf column at kept leaf_open part =
    let l : ℕ = length slots in
    let self : eqb (length slots) (length slots) ≡ true = eq-eqb (length slots) (length slots) refl in
    let apart : eqb leaf (length slots) ≡ false = ne_eqb leaf (length slots) (λ same. omega (arith, leaf_open.there)) in
    let fresh : times (tree_of slots) (length slots) ≡ 0 = kept.numbers (length slots) ∙ ap (λ (b : Bool). cond b 1 0) (le-ltb (length slots) (length slots) (omega arith)) in
    let found = box_replaced-new leaf (length slots) (sides slots leaf column at) (rw self (omega arith)) (rw apart refl) root (tree_of slots) fresh leaf_open.opens leaf_open.times in
    rw (part_gives root slots after leaf column at kept leaf_open part) (found ∙ (rw self refl))

part_right : (root : Ranges) (slots after : List Slot) (leaf column : ℕ) (at : ℤ) → AreSlots root slots → IsOpenSlot slots leaf →
    IsPart root slots after leaf column at → box_below root (tree_of after) (length slots + 1) ≡ right_of (box_below root (tree_of slots) leaf) column at
part_right root slots after leaf column at kept leaf_open part =
    let self : eqb (length slots + 1) (length slots + 1) ≡ true = eq-eqb (length slots + 1) (length slots + 1) refl in
    let other : eqb (length slots) (length slots + 1) ≡ false = ne_eqb (length slots) (length slots + 1) (λ same. omega arith) in
    let apart : eqb leaf (length slots + 1) ≡ false = ne_eqb leaf (length slots + 1) (λ same. omega (arith, leaf_open.there)) in
    let fresh : times (tree_of slots) (length slots + 1) ≡ 0 = kept.numbers (length slots + 1) ∙ ap (λ (b : Bool). cond b 1 0) (le-ltb (length slots + 1) (length slots) (omega arith)) in
    let found = box_replaced-new leaf (length slots + 1) (sides slots leaf column at) (rw self (omega arith)) (rw apart refl) root (tree_of slots) fresh leaf_open.opens leaf_open.times in
    rw (part_gives root slots after leaf column at kept leaf_open part) (found ∙ (rw (other, self) refl))

-- what comes behind a node comes behind it where there are more
behind_more : (count more n : ℕ) (here : State) → count ≤ more → AreBehind count n here → AreBehind more n here
behind_more count more n state.Open longer behind = tt
behind_more count more n (state.Closed how) longer behind = tt
behind_more count more n (state.Split column at left) longer behind = (behind.0, omega (arith, behind.1))

-- a slot whose state alone changes, where its box and that of the node above it stay
slot_stays : (root : Ranges) (tree grown : OpenTree) (count more n : ℕ) (slot new : Slot) → count ≤ more →
    new.parent ≡ slot.parent → new.entry ≡ slot.entry → AreBehind more n new.state →
    box_below root grown n ≡ box_below root tree n → box_below root grown slot.parent ≡ box_below root tree slot.parent →
    IsSlot root tree count n slot → IsSlot root grown more n new
slot_stays root tree grown count more n slot new longer parent entry behind same_here same_above was =
    record {
      behind = behind;
      above = rw parent was.above;
      before = λ some. rw parent (was.before some);
      there = rw parent (omega (arith, was.there));
      box = rw (parent, entry, same_here, same_above) was.box;
      entry = rw (parent, entry, same_above) was.entry;
    }

-- the numbers below a count and two more
two_more : (count n : ℕ) → cond (ltb n count) 1 0 + one count n + one (count + 1) n ≡ cond (ltb n (count + 2)) 1 0
two_more count n =
    elim (cases_order n count) [
      | inl same ↦
          rw (le-ltb n count (omega arith), eq-eqb count n (sym same), ne_eqb (count + 1) n (λ e. omega arith), lt-ltb n (count + 2) (omega arith)) refl
      | inr (inl below) ↦
          rw (lt-ltb n count below, ne_eqb count n (λ e. omega arith), ne_eqb (count + 1) n (λ e. omega arith), lt-ltb n (count + 2) (omega arith)) refl
      | inr (inr above) ↦
          elim (cases_eq n (count + 1)) [
            | inl same ↦
                rw (le-ltb n count (omega arith), ne_eqb count n (λ e. omega arith), eq-eqb (count + 1) n (sym same), lt-ltb n (count + 2) (omega arith)) refl
            | inr other ↦
                rw (le-ltb n count (omega arith), ne_eqb count n (λ e. omega arith), ne_eqb (count + 1) n (λ e. other (sym e)), le-ltb n (count + 2) (omega arith)) refl
          ]
    ]

-- a slot of before, behind a split
part_slot : (root : Ranges) (slots after : List Slot) (leaf column : ℕ) (at : ℤ) (n : ℕ) → AreSlots root slots → IsOpenSlot slots leaf →
    IsPart root slots after leaf column at → n < length slots → IsSlot root (tree_of after) (length after) n (slot_of after n)
part_slot root slots after leaf column at n kept leaf_open part there =
    let was = kept.each n there in
    let same_here = part_box root slots after leaf column at n kept leaf_open part there in
    let same_above = part_box root slots after leaf column at (slot_of slots n).parent kept leaf_open part was.there in
    let longer : length slots ≤ length after = omega (arith, part.longer) in
    elim (cases_Bool (eqb n leaf)) [
      | inl e ↦
          let same : n ≡ leaf = eqb-true n leaf e in
          let here : slot_of after n ≡ record (slot_of slots n) { state = state.Split column at (length slots) } = rw same part.here in
          let behind : (n < length slots) × (length slots + 1 < length after) = (there, omega (arith, part.longer)) in
          slot_stays root (tree_of slots) (tree_of after) (length slots) (length after) n (slot_of slots n) (slot_of after n) longer
          (ap (λ (slot : Slot). slot.parent) here) (ap (λ (slot : Slot). slot.entry) here) (rw here behind) same_here same_above was
      | inr apart ↦
          let same : slot_of after n ≡ slot_of slots n = part.others n there apart in
          slot_stays root (tree_of slots) (tree_of after) (length slots) (length after) n (slot_of slots n) (slot_of after n) longer
          (ap (λ (slot : Slot). slot.parent) same) (ap (λ (slot : Slot). slot.entry) same)
          (rw same (behind_more (length slots) (length after) n (slot_of slots n).state longer was.behind)) same_here same_above was
    ]

-- the slots of the sides
part_left_slot : (root : Ranges) (slots after : List Slot) (leaf column : ℕ) (at : ℤ) → AreSlots root slots → IsOpenSlot slots leaf →
    IsSplit (box_below root (tree_of slots) leaf) column at → IsPart root slots after leaf column at →
    IsSlot root (tree_of after) (length after) (length slots) (slot_of after (length slots))
part_left_slot root slots after leaf column at kept leaf_open split part =
    let above : box_below root (tree_of after) leaf ≡ box_below root (tree_of slots) leaf = part_box root slots after leaf column at leaf kept leaf_open part leaf_open.there in
    rw part.left
    (record {
      behind = tt;
      above = omega (arith, leaf_open.there);
      before = λ some. leaf_open.there;
      there = omega (arith, leaf_open.there, part.longer);
      box = rw above (part_left root slots after leaf column at kept leaf_open part);
      entry = rw above (split, refl);
    })

part_right_slot : (root : Ranges) (slots after : List Slot) (leaf column : ℕ) (at : ℤ) → AreSlots root slots → IsOpenSlot slots leaf →
    IsSplit (box_below root (tree_of slots) leaf) column at → IsPart root slots after leaf column at →
    IsSlot root (tree_of after) (length after) (length slots + 1) (slot_of after (length slots + 1))
part_right_slot root slots after leaf column at kept leaf_open split part =
    let above : box_below root (tree_of after) leaf ≡ box_below root (tree_of slots) leaf = part_box root slots after leaf column at leaf kept leaf_open part leaf_open.there in
    rw part.right
    (record {
      behind = tt;
      above = omega (arith, leaf_open.there);
      before = λ some. omega (arith, leaf_open.there);
      there = omega (arith, leaf_open.there, part.longer);
      box = rw above (part_right root slots after leaf column at kept leaf_open part);
      entry = rw above (split, refl);
    })

-- the slots behind a split are those of a tree
pub part_keeps : (root : Ranges) (slots after : List Slot) (leaf column : ℕ) (at : ℤ) → AreSlots root slots → IsOpenSlot slots leaf →
    length slots + 2 ≤ MAX_NODES + 1 → IsSplit (box_below root (tree_of slots) leaf) column at → IsPart root slots after leaf column at → AreSlots root after
part_keeps root slots after leaf column at kept leaf_open few split part =
    let gives = part_gives root slots after leaf column at kept leaf_open part in
    let sized = rw leaf_open.opens at (size_replaced leaf (sides slots leaf column at) (tree_of slots)) in
    record {
      box = kept.box;
      some = omega (arith, part.longer);
      few = omega (arith, part.longer, few);
      size = rw gives (omega (arith, sized, kept.size, part.longer));
      numbers = λ n.
          let counted = rw leaf_open.opens at (times_replaced leaf n (sides slots leaf column at) (tree_of slots)) in
          let before = kept.numbers n in
          rw (gives, part.longer) (omega (arith, counted, before, two_more (length slots) n));
      top = part_box root slots after leaf column at 0 kept leaf_open part kept.some ∙ kept.top;
      splits = rw gives (splits_replaced leaf (sides slots leaf column at) root (tree_of slots) (omega (arith, leaf_open.times)) kept.splits (λ here. (split, tt, tt)));
      each = λ n there.
          elim (cases_order n (length slots)) [
            | inl same ↦ rw same (part_left_slot root slots after leaf column at kept leaf_open split part)
            | inr (inl below) ↦ part_slot root slots after leaf column at n kept leaf_open part below
            | inr (inr above) ↦
                let last : n ≡ length slots + 1 = omega (arith, there, part.longer) in
                rw last (part_right_slot root slots after leaf column at kept leaf_open split part)
          ];
    }

-- ---- an open leaf is closed

-- what closing changes of the slots: the state of the leaf
pub record IsClosing (slots after : List Slot) (leaf : ℕ) (how : Leaf) : Type 0 where
  pub long : length after ≡ length slots
  pub others : (n : ℕ) → n < length slots → eqb n leaf ≡ false → slot_of after n ≡ slot_of slots n
  pub here : slot_of after leaf ≡ record (slot_of slots leaf) { state = state.Closed how }

-- the closed leaf
closed_there : (after : List Slot) (leaf : ℕ) (how : Leaf) (g : ℕ) → (slot_of after leaf).state ≡ state.Closed how → tree_below after (suc g) leaf ≡ Closed leaf (leaf_of how)
unfolding tree_below
closed_there after leaf how g here = rw here refl

-- the tree that it gives
pub closing_gives : (root : Ranges) (slots after : List Slot) (leaf : ℕ) (how : Leaf) → AreSlots root slots → IsOpenSlot slots leaf →
    IsClosing slots after leaf how → tree_of after ≡ replaced leaf (Closed leaf (leaf_of how)) (tree_of slots)
closing_gives root slots after leaf how kept leaf_open closing =
    tree_changed slots after leaf (Closed leaf (leaf_of how)) (λ n there. (kept.each n there).behind) (omega (arith, closing.long))
    (λ n there apart. ap (λ (slot : Slot). slot.state) (closing.others n there apart))
    leaf_open.state
    (λ g levels. closed_there after leaf how g (ap (λ (slot : Slot). slot.state) closing.here))
    (length slots) (length after) 0 kept.some (omega arith) (omega arith)

-- the box of a node
closing_box : (root : Ranges) (slots after : List Slot) (leaf : ℕ) (how : Leaf) (k : ℕ) → AreSlots root slots → IsOpenSlot slots leaf →
    IsClosing slots after leaf how → box_below root (tree_of after) k ≡ box_below root (tree_of slots) k
closing_box root slots after leaf how k kept leaf_open closing =
    rw (closing_gives root slots after leaf how kept leaf_open closing)
    (box_replaced leaf k (Closed leaf (leaf_of how)) refl (λ box. refl) root (tree_of slots))

-- a slot
closing_slot : (root : Ranges) (slots after : List Slot) (leaf : ℕ) (how : Leaf) (n : ℕ) → AreSlots root slots → IsOpenSlot slots leaf →
    IsClosing slots after leaf how → n < length slots → IsSlot root (tree_of after) (length after) n (slot_of after n)
closing_slot root slots after leaf how n kept leaf_open closing there =
    let was = kept.each n there in
    let same_here = closing_box root slots after leaf how n kept leaf_open closing in
    let same_above = closing_box root slots after leaf how (slot_of slots n).parent kept leaf_open closing in
    let longer : length slots ≤ length after = omega (arith, closing.long) in
    elim (cases_Bool (eqb n leaf)) [
      | inl e ↦
          let same : n ≡ leaf = eqb-true n leaf e in
          let here : slot_of after n ≡ record (slot_of slots n) { state = state.Closed how } = rw same closing.here in
          slot_stays root (tree_of slots) (tree_of after) (length slots) (length after) n (slot_of slots n) (slot_of after n) longer
          (ap (λ (slot : Slot). slot.parent) here) (ap (λ (slot : Slot). slot.entry) here) (rw here tt) same_here same_above was
      | inr apart ↦
          let same : slot_of after n ≡ slot_of slots n = closing.others n there apart in
          slot_stays root (tree_of slots) (tree_of after) (length slots) (length after) n (slot_of slots n) (slot_of after n) longer
          (ap (λ (slot : Slot). slot.parent) same) (ap (λ (slot : Slot). slot.entry) same)
          (rw same (behind_more (length slots) (length after) n (slot_of slots n).state longer was.behind)) same_here same_above was
    ]

-- the slots are those of a tree
pub closing_keeps : (root : Ranges) (slots after : List Slot) (leaf : ℕ) (how : Leaf) → AreSlots root slots → IsOpenSlot slots leaf →
    IsClosing slots after leaf how → AreSlots root after
closing_keeps root slots after leaf how kept leaf_open closing =
    let gives = closing_gives root slots after leaf how kept leaf_open closing in
    let sized = rw leaf_open.opens at (size_replaced leaf (Closed leaf (leaf_of how)) (tree_of slots)) in
    record {
      box = kept.box;
      some = omega (arith, closing.long, kept.some);
      few = omega (arith, closing.long, kept.few);
      size = rw gives (omega (arith, sized, kept.size, closing.long));
      numbers = λ n.
          let counted = rw leaf_open.opens at (times_replaced leaf n (Closed leaf (leaf_of how)) (tree_of slots)) in
          let before = kept.numbers n in
          rw (gives, closing.long) (omega (arith, counted, before));
      top = closing_box root slots after leaf how 0 kept leaf_open closing ∙ kept.top;
      splits = rw gives (splits_replaced leaf (Closed leaf (leaf_of how)) root (tree_of slots) (omega (arith, leaf_open.times)) kept.splits (λ here. tt));
      each = λ n there. closing_slot root slots after leaf how n kept leaf_open closing (omega (arith, there, closing.long));
    }

-- ---- the first tree, and which leaf is open first

-- the tree of one slot
pub one_slot_gives : tree_of (open_slot 0 Root ∷ []) ≡ Open 0
unfolding tree_below
one_slot_gives = refl

-- a number below 1 is 0
below_one : (n : ℕ) → one 0 n ≡ cond (ltb n 1) 1 0
below_one zero = refl
below_one (suc n) = rw (le-ltb (suc n) 1 (omega arith), ne_eqb 0 (suc n) (λ same. omega arith)) refl

-- it is kept
pub one_slot_keeps : (root : Ranges) → IsBox root → IsKept root (open_slot 0 Root ∷ []) 0
one_slot_keeps root is_box =
    record {
      each = record {
        box = is_box;
        some = omega arith;
        few = omega arith;
        size = rw one_slot_gives refl;
        numbers = λ n. rw one_slot_gives (below_one n);
        top = rw one_slot_gives refl;
        splits = rw one_slot_gives tt;
        each = λ n there.
            let first : n ≡ 0 = omega (arith, there) in
            rw first
            (record {
              behind = tt;
              above = omega arith;
              before = λ some. absurd (omega arith);
              there = omega arith;
              box = refl;
              entry = tt;
            });
      };
      begins = record {
        within = omega arith;
        none_before = λ n before. absurd (omega arith);
        opened = λ some. refl;
      };
    }

-- the first open slot is an open leaf
pub first_is_open : (root : Ranges) (slots : List Slot) (first : ℕ) → IsKept root slots first → first < length slots → is_open (tree_of slots) first ≡ true
first_is_open root slots first kept there =
    let counted = opens_of root slots first kept.each in
    let stands = once root slots first kept.each there in
    lt-ltb 0 (opens (tree_of slots) first) (omega (arith, counted ∙ ap (λ (b : Bool). cond b (times (tree_of slots) first) 0) (kept.begins.opened there) ∙ stands))

-- a slot that is not open is no open leaf
closed_is_not_open : (root : Ranges) (slots : List Slot) (n : ℕ) → AreSlots root slots → is_open_state (slot_of slots n).state ≡ false → is_open (tree_of slots) n ≡ false
closed_is_not_open root slots n kept closed =
    let counted = opens_of root slots n kept in
    le-ltb 0 (opens (tree_of slots) n) (omega (arith, counted ∙ ap (λ (b : Bool). cond b (times (tree_of slots) n) 0) closed))

-- nor is any before the first
pub none_before_first : (root : Ranges) (slots : List Slot) (first n : ℕ) → IsKept root slots first → n < first → is_open (tree_of slots) n ≡ false
none_before_first root slots first n kept before = closed_is_not_open root slots n kept.each (kept.begins.none_before n before)

-- and where there is no first, none
pub none_is_open : (root : Ranges) (slots : List Slot) (first n : ℕ) → IsKept root slots first → length slots ≤ first → is_open (tree_of slots) n ≡ false
none_is_open root slots first n kept none =
    elim (cases_lt n first) [
      | inl before ↦ none_before_first root slots first n kept before
      | inr past ↦
          let count : opens (tree_of slots) n ≤ times (tree_of slots) n = opens_times (tree_of slots) n in
          let unreached : times (tree_of slots) n ≡ 0 = kept.each.numbers n ∙ ap (λ (b : Bool). cond b 1 0) (le-ltb n (length slots) (omega arith)) in
          le-ltb 0 (opens (tree_of slots) n) (omega arith)
    ]

-- an open slot is an open leaf
pub slot_is_open : (root : Ranges) (slots : List Slot) (n : ℕ) → AreSlots root slots → n < length slots → is_open_state (slot_of slots n).state ≡ is_open (tree_of slots) n
slot_is_open root slots n kept there =
    let counted = opens_of root slots n kept in
    let stands = once root slots n kept there in
    elim (cases_Bool (is_open_state (slot_of slots n).state)) [
      | inl here ↦
          here
          ∙ sym (lt-ltb 0 (opens (tree_of slots) n) (omega (arith, counted ∙ ap (λ (b : Bool). cond b (times (tree_of slots) n) 0) here ∙ stands)))
      | inr closed ↦ closed ∙ sym (closed_is_not_open root slots n kept closed)
    ]

-- and a number past the end is none
pub past_is_not_open : (root : Ranges) (slots : List Slot) (n : ℕ) → AreSlots root slots → length slots ≤ n → is_open (tree_of slots) n ≡ false
past_is_not_open root slots n kept past =
    let count : opens (tree_of slots) n ≤ times (tree_of slots) n = opens_times (tree_of slots) n in
    let unreached : times (tree_of slots) n ≡ 0 = kept.numbers n ∙ ap (λ (b : Bool). cond b 1 0) (le-ltb n (length slots) past) in
    le-ltb 0 (opens (tree_of slots) n) (omega arith)
