-- The boxes of the nodes, and what entering a node changes of a box.
use Rattle.std.proofs.Common.{◌≡◌, inl, inr, refl, ℕ, zero, suc, ◌<◌, ◌≤◌, cond, eqb, List, length, length-set, get_or, set, Some, None, ◌∙◌, sym, ap, arith, ℤ, pos, ◌+ℤ◌, ◌≤ℤ◌, ◌<ℤ◌}
use Rattle.std.proofs.lemmas.Bool.{cases_Bool, cases_eq, cond_both, eqb-true, eqb-false}
use Rattle.std.proofs.lemmas.Int.{ints}
use Rattle.std.proofs.lemmas.List.{get_or-set_other, get_or-set_same, set-get_or, set-set}
use Rattle.sparse_program.specs.Box.{IsBox, Ranges, high_of, low_of}
use Rattle.sparse_program.specs.Terms.{IsSmall}
use Rattle.certificate_model.specs.Tree.{IsSplit, left_of, right_of}
use Rattle.branch_tree.specs.Boxes.{AreSplits, box_below}
use Rattle.branch_tree.specs.OpenTree.{Closed, Open, OpenTree, Parted, has}
use Rattle.branch_tree.specs.inner.Entries.{CanSetBack, HasNextLow, IsEntry, entered, new_high, new_low, set_back}
use Rattle.branch_tree.specs.inner.Slots.{AreSlots, IsAbove, node_box, slot_of, tree_of, up}
use Rattle.branch_tree.specs.declared.slot.Entry.{Entry}
use Rattle.branch_tree.specs.declared.slot.Entry.TheVariants.{Left, Right, Root}
use Rattle.branch_tree.specs.declared.slot.Slot.{Slot}

-- ---- the boxes of nodes are boxes

-- a value between two small ones is small
between : (low at high : ℤ) → low ≤ℤ at → at <ℤ high → IsSmall low → IsSmall high → IsSmall at
between low at high above below low_small high_small = grind (arith, ints)

-- and so is the next one
pub next_between : (low at high : ℤ) → low ≤ℤ at → at <ℤ high → IsSmall low → IsSmall high → IsSmall (at +ℤ pos 1)
next_between low at high above below low_small high_small = grind (arith, ints)

-- the left side of a split is a box
left_is_box : (box : Ranges) (column : ℕ) (at : ℤ) → IsBox box → IsSplit box column at → IsBox (left_of box column at)
left_is_box box column at is_box split =
    let here = is_box.each column split.there in
    record {
      same = length-set box.highs column at ∙ is_box.same;
      few = is_box.few;
      each = λ j there.
          elim (cases_eq j column) [
            | inl same ↦
                let high : get_or (set box.highs column at) j (pos 0) ≡ at = rw same (get_or-set_same box.highs column at (pos 0) (omega (arith, is_box.same, split.there))) in
                record {
                  bounds = rw high (rw same split.low);
                  low = rw same here.low;
                  high = rw high (between (low_of box column) at (high_of box column) split.low split.high here.low here.high);
                }
            | inr other ↦
                let high : get_or (set box.highs column at) j (pos 0) ≡ high_of box j = get_or-set_other box.highs column j at (pos 0) other in
                let was = is_box.each j there in
                record { bounds = rw high was.bounds; low = was.low; high = rw high was.high }
          ];
    }

-- and so is the right one
right_is_box : (box : Ranges) (column : ℕ) (at : ℤ) → IsBox box → IsSplit box column at → IsBox (right_of box column at)
right_is_box box column at is_box split =
    let here = is_box.each column split.there in
    let long : length (set box.lows column (at +ℤ pos 1)) ≡ length box.lows = length-set box.lows column (at +ℤ pos 1) in
    record {
      same = is_box.same ∙ sym long;
      few = omega (arith, long, is_box.few);
      each = λ j there.
          elim (cases_eq j column) [
            | inl same ↦
                let low : get_or (set box.lows column (at +ℤ pos 1)) j (pos 0) ≡ at +ℤ pos 1 = rw same (get_or-set_same box.lows column (at +ℤ pos 1) (pos 0) split.there) in
                let within : (at +ℤ pos 1) ≤ℤ high_of box column = omega (arith, ints, split.high) in
                record {
                  bounds = rw low (rw same within);
                  low = rw low (next_between (low_of box column) at (high_of box column) split.low split.high here.low here.high);
                  high = rw same here.high;
                }
            | inr other ↦
                let low : get_or (set box.lows column (at +ℤ pos 1)) j (pos 0) ≡ low_of box j = get_or-set_other box.lows column j (at +ℤ pos 1) (pos 0) other in
                let was = is_box.each j (omega (arith, there, long)) in
                record { bounds = rw low was.bounds; low = rw low was.low; high = was.high }
          ];
    }

-- the box of each node is one
pub node_is_box : (box : Ranges) (tree : OpenTree) (k : ℕ) → IsBox box → AreSplits box tree → IsBox (box_below box tree k)
node_is_box box (Open n) k is_box splits = is_box
node_is_box box (Closed n leaf) k is_box splits = is_box
node_is_box box (Parted n column at left right) k is_box splits =
    let in_left = node_is_box (left_of box column at) left k (left_is_box box column at is_box splits.0) splits.1 in
    let in_right = node_is_box (right_of box column at) right k (right_is_box box column at is_box splits.0) splits.2 in
    cond_both (has left k) (box_below (left_of box column at) left k) (cond (has right k) (box_below (right_of box column at) right k) box)
    IsBox (λ yes. in_left)
    (λ no. cond_both (has right k) (box_below (right_of box column at) right k) box IsBox (λ yes. in_right) (λ none. is_box))

-- with as many columns as the root's
pub lows_long : (box : Ranges) (tree : OpenTree) (k : ℕ) → length (box_below box tree k).lows ≡ length box.lows
lows_long box (Open n) k = refl
lows_long box (Closed n leaf) k = refl
lows_long box (Parted n column at left right) k =
    let in_left = lows_long (left_of box column at) left k in
    let in_right = lows_long (right_of box column at) right k ∙ length-set box.lows column (at +ℤ pos 1) in
    let P : Ranges → Type 0 = λ inner. length inner.lows ≡ length box.lows in
    cond_both (has left k) (box_below (left_of box column at) left k) (cond (has right k) (box_below (right_of box column at) right k) box)
    P (λ yes. in_left)
    (λ no. cond_both (has right k) (box_below (right_of box column at) right k) box P (λ yes. in_right) (λ none. refl))

-- ---- the bounds of a column on the way up

-- an entry that gives the column no high leaves it
high_stays : (box : Ranges) (entry : Entry) (j : ℕ) → new_high entry j ≡ None → high_of (entered entry box) j ≡ high_of box j
high_stays box Root j none = refl
high_stays box (Left column at high) j none =
    elim (cases_Bool (eqb column j)) [
      | inl e ↦ absurd (let found : Some at ≡ None = rw e at none in cc)
      | inr e ↦ get_or-set_other box.highs column j at (pos 0) (λ same. eqb-false column j e (sym same))
    ]
high_stays box (Right column at low) j none = refl

-- and one that gives it a high gives that
high_changes : (box : Ranges) (entry : Entry) (j : ℕ) (found : ℤ) → IsBox box → IsEntry box entry → new_high entry j ≡ Some found → high_of (entered entry box) j ≡ found
high_changes box Root j found is_box is new = absurd (cc)
high_changes box (Left column at high) j found is_box is new =
    elim (cases_Bool (eqb column j)) [
      | inl e ↦
          let same : column ≡ j = eqb-true column j e in
          let value : at ≡ found = let some : Some at ≡ Some found = rw e at new in cc in
          rw (← same) (get_or-set_same box.highs column at (pos 0) (omega (arith, is.0.there, is_box.same)) ∙ value)
      | inr e ↦ absurd (let none : None ≡ Some found = rw e at new in cc)
    ]
high_changes box (Right column at low) j found is_box is new = absurd (cc)

-- the same of lows
low_stays : (box : Ranges) (entry : Entry) (j : ℕ) → new_low entry j ≡ None → low_of (entered entry box) j ≡ low_of box j
low_stays box Root j none = refl
low_stays box (Left column at high) j none = refl
low_stays box (Right column at low) j none =
    elim (cases_Bool (eqb column j)) [
      | inl e ↦ absurd (let found : Some (at +ℤ pos 1) ≡ None = rw e at none in cc)
      | inr e ↦ get_or-set_other box.lows column j (at +ℤ pos 1) (pos 0) (λ same. eqb-false column j e (sym same))
    ]

low_changes : (box : Ranges) (entry : Entry) (j : ℕ) (found : ℤ) → IsEntry box entry → new_low entry j ≡ Some found → low_of (entered entry box) j ≡ found
low_changes box Root j found is new = absurd (cc)
low_changes box (Left column at high) j found is new = absurd (cc)
low_changes box (Right column at low) j found is new =
    elim (cases_Bool (eqb column j)) [
      | inl e ↦
          let same : column ≡ j = eqb-true column j e in
          let value : at +ℤ pos 1 ≡ found = let some : Some (at +ℤ pos 1) ≡ Some found = rw e at new in cc in
          rw (← same) (get_or-set_same box.lows column (at +ℤ pos 1) (pos 0) is.0.there ∙ value)
      | inr e ↦ absurd (let none : None ≡ Some found = rw e at new in cc)
    ]

-- the node above a node of a tree, and its box
pub above_is_box : (root : Ranges) (slots : List Slot) (n : ℕ) → AreSlots root slots → IsBox (node_box root slots n)
above_is_box root slots n kept = node_is_box root (tree_of slots) n kept.box kept.splits

-- the high of a column in the box of the node above, where the entry does not change it
pub high_above : (root : Ranges) (slots : List Slot) (n j : ℕ) → AreSlots root slots → n < length slots → new_high (slot_of slots n).entry j ≡ None →
    high_of (node_box root slots (slot_of slots n).parent) j ≡ high_of (node_box root slots n) j
high_above root slots n j kept there none =
    let is = kept.each n there in
    sym (ap (λ (box : Ranges). high_of box j) is.box ∙ high_stays (node_box root slots (slot_of slots n).parent) (slot_of slots n).entry j none)

-- and where it does
pub high_here : (root : Ranges) (slots : List Slot) (n j : ℕ) (found : ℤ) → AreSlots root slots → n < length slots → new_high (slot_of slots n).entry j ≡ Some found →
    high_of (node_box root slots n) j ≡ found
high_here root slots n j found kept there new =
    let is = kept.each n there in
    ap (λ (box : Ranges). high_of box j) is.box
    ∙ high_changes (node_box root slots (slot_of slots n).parent) (slot_of slots n).entry j found (above_is_box root slots (slot_of slots n).parent kept) is.entry new

-- the same of lows
pub low_above : (root : Ranges) (slots : List Slot) (n j : ℕ) → AreSlots root slots → n < length slots → new_low (slot_of slots n).entry j ≡ None →
    low_of (node_box root slots (slot_of slots n).parent) j ≡ low_of (node_box root slots n) j
low_above root slots n j kept there none =
    let is = kept.each n there in
    sym (ap (λ (box : Ranges). low_of box j) is.box ∙ low_stays (node_box root slots (slot_of slots n).parent) (slot_of slots n).entry j none)

pub low_here : (root : Ranges) (slots : List Slot) (n j : ℕ) (found : ℤ) → AreSlots root slots → n < length slots → new_low (slot_of slots n).entry j ≡ Some found →
    low_of (node_box root slots n) j ≡ found
low_here root slots n j found kept there new =
    let is = kept.each n there in
    ap (λ (box : Ranges). low_of box j) is.box
    ∙ low_changes (node_box root slots (slot_of slots n).parent) (slot_of slots n).entry j found is.entry new

-- the next value of a right side is small
next_low_fits : (box : Ranges) (entry : Entry) → IsBox box → IsEntry box entry → HasNextLow entry
next_low_fits box Root is_box is = tt
next_low_fits box (Left column at high) is_box is = tt
next_low_fits box (Right column at low) is_box is =
    let here = is_box.each column is.0.there in
    let small : IsSmall (at +ℤ pos 1) = next_between (low_of box column) at (high_of box column) is.0.low is.0.high here.low here.high in
    omega (arith, small)

pub next_low : (root : Ranges) (slots : List Slot) (n : ℕ) → AreSlots root slots → n < length slots → HasNextLow (slot_of slots n).entry
next_low root slots n kept there =
    next_low_fits (node_box root slots (slot_of slots n).parent) (slot_of slots n).entry (above_is_box root slots (slot_of slots n).parent kept) (kept.each n there).entry

-- ---- the way up

-- a node above another has no higher number
pub above_is_below : (root : Ranges) (slots : List Slot) (steps n : ℕ) → AreSlots root slots → n < length slots → up slots steps n ≤ n
above_is_below root slots zero n kept there = omega arith
above_is_below root slots (suc steps) n kept there =
    let is = kept.each n there in
    let more = above_is_below root slots steps (slot_of slots n).parent kept is.there in
    omega (arith, more, is.above)

-- steps after steps
up_more : (slots : List Slot) (steps n : ℕ) → up slots (suc steps) n ≡ (slot_of slots (up slots steps n)).parent
up_more slots zero n = refl
up_more slots (suc steps) n = up_more slots steps (slot_of slots n).parent

-- one step more above a node
pub above_more : (slots : List Slot) (top n : ℕ) → IsAbove slots top n → IsAbove slots (slot_of slots top).parent n
above_more slots top n above = (suc (above.0), up_more slots above.0 n ∙ ap (λ (m : ℕ). (slot_of slots m).parent) above.1)

-- a node above another is the other, or above the one above it
pub above_parent : (slots : List Slot) (top n : ℕ) → top < n → IsAbove slots top n → IsAbove slots top (slot_of slots n).parent
above_parent slots top n below (zero, is) = absurd (omega (arith, is, below))
above_parent slots top n below (suc steps, is) = (steps, is)

-- ---- setting back

-- what was entered can be set back
pub entered_set_back : (box : Ranges) (entry : Entry) → IsEntry box entry → set_back entry (entered entry box) ≡ box
entered_set_back box Root is = refl
entered_set_back box (Left column at high) is =
    ap (λ (highs : List ℤ). let made : Ranges = record { lows = box.lows; highs = highs } in made)
    (set-set box.highs column at high ∙ ap (set box.highs column) is.1 ∙ set-get_or box.highs column (pos 0))
entered_set_back box (Right column at low) is =
    ap (λ (lows : List ℤ). let made : Ranges = record { lows = lows; highs = box.highs } in made)
    (set-set box.lows column (at +ℤ pos 1) low ∙ ap (set box.lows column) is.1 ∙ set-get_or box.lows column (pos 0))

-- within its bounds
pub can_set_back : (box : Ranges) (entry : Entry) → IsBox box → IsEntry box entry → CanSetBack (entered entry box) entry
can_set_back box Root is_box is = tt
can_set_back box (Left column at high) is_box is =
    let here = is_box.each column is.0.there in
    (is.0.there, rw is.1 here.bounds, rw is.1 here.high)
can_set_back box (Right column at low) is_box is =
    let here = is_box.each column is.0.there in
    (omega (arith, length-set box.lows column (at +ℤ pos 1), is.0.there), rw is.1 here.bounds, rw is.1 here.low)
