-- A box that is moved: set back on the way up, and cut on the way down.
use Rattle.std.proofs.Common.{◌≡◌, inl, inr, refl, ℕ, zero, suc, ◌<◌, List, length, length-set, get_or, set, ◌∙◌, sym, ap, subst, arith, ℤ, pos, ◌+ℤ◌, ◌≤ℤ◌, ext_get_or}
use Rattle.std.specs.Int.{int_max, int_min}
use Rattle.std.proofs.lemmas.Bool.{cases_eq}
use Rattle.std.proofs.lemmas.Int.{clamps, ints}
use Rattle.std.proofs.lemmas.List.{get_or-set_other, get_or-set_same}
use Rattle.sparse_program.specs.Box.{IsBox, Ranges, high_of, low_of}
use Rattle.sparse_program.specs.Terms.{IsSmall}
use Rattle.branch_tree.specs.inner.Entries.{CanMeet, CanSetBack, IsEntry, IsMeet, IsWithin, entered, met, set_back}
use Rattle.branch_tree.specs.inner.Slots.{AreSlots, IsAbove, node_box, slot_of, tree_of, up}
use Rattle.branch_tree.specs.declared.slot.Entry.{Entry}
use Rattle.branch_tree.specs.declared.slot.Entry.TheVariants.{Left, Right, Root}
use Rattle.branch_tree.specs.declared.slot.Slot.{Slot}
use Rattle.branch_tree.proofs.BoxLaws.{above_is_box, can_set_back, entered_set_back, lows_long, next_between}

-- ---- one step up

-- the bound that entering has changed can be set back
pub can_leave : (root : Ranges) (slots : List Slot) (n : ℕ) (slot : Slot) (box : Ranges) → AreSlots root slots → n < length slots →
    slot ≡ slot_of slots n → box ≡ node_box root slots n → CanSetBack box slot.entry
can_leave root slots n slot box kept there slot_is stands =
    let is = kept.each n there in
    rw (stands, slot_is, is.box)
    (can_set_back (node_box root slots (slot_of slots n).parent) (slot_of slots n).entry (above_is_box root slots (slot_of slots n).parent kept) is.entry)

-- which gives the box of the node above
pub left_box : (root : Ranges) (slots : List Slot) (n : ℕ) (slot : Slot) (box new : Ranges) → AreSlots root slots → n < length slots →
    slot ≡ slot_of slots n → box ≡ node_box root slots n → new ≡ set_back slot.entry box → new ≡ node_box root slots slot.parent
left_box root slots n slot box new kept there slot_is stands new_is =
    let is = kept.each n there in
    rw (new_is, stands, slot_is, is.box)
    (entered_set_back (node_box root slots (slot_of slots n).parent) (slot_of slots n).entry is.entry)

-- the node above is there
pub parent_there : (root : Ranges) (slots : List Slot) (n : ℕ) (slot : Slot) → AreSlots root slots → n < length slots → slot ≡ slot_of slots n → slot.parent < length slots
parent_there root slots n slot kept there slot_is = rw slot_is (kept.each n there).there

-- ---- boxes in boxes

-- a box lies in itself
pub within_itself : (box : Ranges) → IsWithin box box
within_itself box = record { as_many_lows = refl; as_many_highs = refl; lows = λ j. omega (arith, ints); highs = λ j. omega (arith, ints) }

-- and in what holds a box that it lies in
within_more : (inner middle outer : Ranges) → IsWithin inner middle → IsWithin middle outer → IsWithin inner outer
within_more inner middle outer first second = record {
  as_many_lows = first.as_many_lows ∙ second.as_many_lows;
  as_many_highs = first.as_many_highs ∙ second.as_many_highs;
  lows = λ j. omega (arith, ints, first.lows j, second.lows j);
  highs = λ j. omega (arith, ints, first.highs j, second.highs j);
}

-- a number that is put at a place is read there, and the others elsewhere
read_set : (P : ℤ → Type 0) (xs : List ℤ) (column j : ℕ) (new : ℤ) → column < length xs → (j ≡ column → P new) → ((j ≡ column → ⊥) → P (get_or xs j (pos 0))) →
    P (get_or (set xs column new) j (pos 0))
read_set P xs column j new there here elsewhere =
    elim (cases_eq j column) [
      | inl same ↦ rw same (rw (get_or-set_same xs column new (pos 0) there) (here same))
      | inr other ↦ rw (get_or-set_other xs column j new (pos 0) other) (elsewhere other)
    ]

-- the side of a split lies in its box
entered_within : (box : Ranges) (entry : Entry) → IsBox box → IsEntry box entry → IsWithin (entered entry box) box
entered_within box Root is_box is = within_itself box
entered_within box (Left column at high) is_box is = record {
  as_many_lows = refl;
  as_many_highs = length-set box.highs column at;
  lows = λ j. omega (arith, ints);
  highs = λ j.
      read_set (λ (h : ℤ). h ≤ℤ high_of box j) box.highs column j at (omega (arith, is_box.same, is.0.there))
      (λ same. rw same (omega (arith, ints, is.0.high))) (λ other. omega (arith, ints));
}
entered_within box (Right column at low) is_box is = record {
  as_many_lows = length-set box.lows column (at +ℤ pos 1);
  as_many_highs = refl;
  lows = λ j.
      read_set (λ (l : ℤ). low_of box j ≤ℤ l) box.lows column j (at +ℤ pos 1) is.0.there
      (λ same. rw same (omega (arith, ints, is.0.low))) (λ other. omega (arith, ints));
  highs = λ j. omega (arith, ints);
}

-- the box of a node lies in that of a node above it
pub below_within : (root : Ranges) (slots : List Slot) (steps n top : ℕ) → AreSlots root slots → n < length slots → up slots steps n ≡ top →
    IsWithin (node_box root slots n) (node_box root slots top)
below_within root slots zero n top kept there is = rw is (within_itself (node_box root slots top))
below_within root slots (suc steps) n top kept there is =
    let slot = kept.each n there in
    let parent : ℕ = (slot_of slots n).parent in
    let more = below_within root slots steps (slot_of slots n).parent top kept slot.there is in
    rw slot.box
    (within_more (entered (slot_of slots n).entry (node_box root slots (slot_of slots n).parent)) (node_box root slots (slot_of slots n).parent) (node_box root slots top)
    (entered_within (node_box root slots (slot_of slots n).parent) (slot_of slots n).entry (above_is_box root slots (slot_of slots n).parent kept) slot.entry) more)

-- ---- one step of the way down, from its end

-- two boxes of which one lies in the other have it in common
pub within_meet : (inner outer : Ranges) → IsWithin inner outer → IsMeet inner inner outer
within_meet inner outer within = record {
  lows = λ j. omega (arith, ints, clamps, within.lows j);
  highs = λ j. omega (arith, ints, clamps, within.highs j);
}

-- the cut can be made
can_meet : (leaf outer box : Ranges) (entry : Entry) → IsBox leaf → IsBox outer → IsEntry outer entry → length leaf.lows ≡ length outer.lows →
    length box.lows ≡ length outer.lows → IsMeet leaf (entered entry outer) box → CanMeet box entry
can_meet leaf outer box Root leaf_is outer_is is leaf_long long meet = tt
can_meet leaf outer box (Left column at high) leaf_is outer_is is leaf_long long meet =
    let range = leaf_is.each column (omega (arith, leaf_long, is.0.there)) in
    let here : get_or (set outer.highs column at) column (pos 0) ≡ at = get_or-set_same outer.highs column at (pos 0) (omega (arith, outer_is.same, is.0.there)) in
    let highs : high_of leaf column ≡ int_min at (high_of box column) = meet.highs column ∙ ap (λ (h : ℤ). int_min h (high_of box column)) here in
    let lows : low_of leaf column ≡ int_max (low_of outer column) (low_of box column) = meet.lows column in
    (omega (arith, long, is.0.there), omega (arith, ints, clamps, range.bounds, highs, lows))
can_meet leaf outer box (Right column at low) leaf_is outer_is is leaf_long long meet =
    let range = leaf_is.each column (omega (arith, leaf_long, is.0.there)) in
    let split = outer_is.each column is.0.there in
    let here : get_or (set outer.lows column (at +ℤ pos 1)) column (pos 0) ≡ at +ℤ pos 1 = get_or-set_same outer.lows column (at +ℤ pos 1) (pos 0) is.0.there in
    let lows : low_of leaf column ≡ int_max (at +ℤ pos 1) (low_of box column) = meet.lows column ∙ ap (λ (l : ℤ). int_max l (low_of box column)) here in
    let highs : high_of leaf column ≡ int_min (high_of outer column) (high_of box column) = meet.highs column in
    let small : IsSmall (at +ℤ pos 1) = next_between (low_of outer column) at (high_of outer column) is.0.low is.0.high split.low split.high in
    (omega (arith, long, is.0.there), omega (arith, ints, clamps, range.bounds, highs, lows), omega (arith, small))

-- what the node has in common with the box, the node above has with the box that is cut
meet_more : (leaf outer box : Ranges) (entry : Entry) → IsBox outer → IsEntry outer entry → length box.lows ≡ length outer.lows → length box.highs ≡ length outer.highs →
    IsMeet leaf (entered entry outer) box → IsMeet leaf outer (met entry box)
meet_more leaf outer box Root outer_is is long long_highs meet = meet
meet_more leaf outer box (Left column at high) outer_is is long long_highs meet = record {
  lows = meet.lows;
  highs = λ j.
      let cut : ℤ = int_min at (high_of box column) in
      read_set (λ (h : ℤ). high_of leaf j ≡ int_min (high_of outer j) h) box.highs column j (int_min at (high_of box column)) (omega (arith, long_highs, outer_is.same, is.0.there))
      (λ same.
      let here : get_or (set outer.highs column at) column (pos 0) ≡ at = get_or-set_same outer.highs column at (pos 0) (omega (arith, outer_is.same, is.0.there)) in
      let was : high_of leaf column ≡ int_min at (high_of box column) = meet.highs column ∙ ap (λ (h : ℤ). int_min h (high_of box column)) here in
      rw same (omega (arith, ints, clamps, was, is.0.high)))
      (λ other. meet.highs j ∙ ap (λ (h : ℤ). int_min h (high_of box j)) (get_or-set_other outer.highs column j at (pos 0) other));
}
meet_more leaf outer box (Right column at low) outer_is is long long_highs meet = record {
  lows = λ j.
      read_set (λ (l : ℤ). low_of leaf j ≡ int_max (low_of outer j) l) box.lows column j (int_max (at +ℤ pos 1) (low_of box column)) (omega (arith, long, is.0.there))
      (λ same.
      let here : get_or (set outer.lows column (at +ℤ pos 1)) column (pos 0) ≡ at +ℤ pos 1 = get_or-set_same outer.lows column (at +ℤ pos 1) (pos 0) is.0.there in
      let was : low_of leaf column ≡ int_max (at +ℤ pos 1) (low_of box column) = meet.lows column ∙ ap (λ (l : ℤ). int_max l (low_of box column)) here in
      rw same (omega (arith, ints, clamps, was, is.0.low)))
      (λ other. meet.lows j ∙ ap (λ (l : ℤ). int_max l (low_of box j)) (get_or-set_other outer.lows column j (at +ℤ pos 1) (pos 0) other));
  highs = meet.highs;
}

-- a box that is cut lies where it lay
met_within : (box outer : Ranges) (entry : Entry) → CanMeet box entry → length box.highs ≡ length box.lows → IsWithin box outer → IsWithin (met entry box) outer
met_within box outer Root can same within = within
met_within box outer (Left column at high) can same within = record {
  as_many_lows = within.as_many_lows;
  as_many_highs = length-set box.highs column (int_min at (high_of box column)) ∙ within.as_many_highs;
  lows = within.lows;
  highs = λ j.
      read_set (λ (h : ℤ). h ≤ℤ high_of outer j) box.highs column j (int_min at (high_of box column)) (omega (arith, same, can.0))
      (λ e. rw e (omega (arith, ints, clamps, within.highs column))) (λ other. within.highs j);
}
met_within box outer (Right column at low) can same within = record {
  as_many_lows = length-set box.lows column (int_max (at +ℤ pos 1) (low_of box column)) ∙ within.as_many_lows;
  as_many_highs = within.as_many_highs;
  lows = λ j.
      read_set (λ (l : ℤ). low_of outer j ≤ℤ l) box.lows column j (int_max (at +ℤ pos 1) (low_of box column)) can.0
      (λ e. rw e (omega (arith, ints, clamps, within.lows column))) (λ other. within.lows j);
  highs = within.highs;
}

-- at the node that the way began from, the box is what it has in common with itself
pub meet_is : (leaf outer box : Ranges) → length leaf.lows ≡ length outer.lows → length leaf.highs ≡ length outer.highs → IsMeet leaf outer box → IsWithin box outer → box ≡ leaf
meet_is leaf outer box long long_highs meet within =
    let lows : box.lows ≡ leaf.lows =
    ext_get_or (pos 0) box.lows leaf.lows (within.as_many_lows ∙ sym long) (λ j there. omega (arith, ints, clamps, meet.lows j, within.lows j)) in
    let highs : box.highs ≡ leaf.highs =
    ext_get_or (pos 0) box.highs leaf.highs (within.as_many_highs ∙ sym long_highs) (λ j there. omega (arith, ints, clamps, meet.highs j, within.highs j)) in
    ap (λ (l : List ℤ). let made : Ranges = record { lows = l; highs = box.highs } in made) lows
    ∙ ap (λ (h : List ℤ). let made : Ranges = record { lows = leaf.lows; highs = h } in made) highs

-- ---- the way down

-- what the loop keeps of the box
pub record IsOnItsWay (root : Ranges) (slots : List Slot) (top leaf n : ℕ) (box : Ranges) : Type 0 where
  pub meet : IsMeet (node_box root slots leaf) (node_box root slots n) box
  pub within : IsWithin box (node_box root slots top)

-- all boxes have as many columns
lows_same : (root : Ranges) (slots : List Slot) (n k : ℕ) → length (node_box root slots n).lows ≡ length (node_box root slots k).lows
lows_same root slots n k = lows_long root (tree_of slots) n ∙ sym (lows_long root (tree_of slots) k)

highs_same : (root : Ranges) (slots : List Slot) (n k : ℕ) → AreSlots root slots → length (node_box root slots n).highs ≡ length (node_box root slots k).highs
highs_same root slots n k kept = (above_is_box root slots n kept).same ∙ lows_same root slots n k ∙ sym (above_is_box root slots k kept).same

-- as it begins
pub way_begins : (root : Ranges) (slots : List Slot) (top leaf : ℕ) (box : Ranges) → AreSlots root slots → leaf < length slots → IsAbove slots top leaf →
    box ≡ node_box root slots top → IsOnItsWay root slots top leaf leaf box
way_begins root slots top leaf box kept there above stands =
    rw stands
    (record {
      meet = within_meet (node_box root slots leaf) (node_box root slots top) (below_within root slots above.0 leaf top kept there above.1);
      within = within_itself (node_box root slots top);
    })

-- the next cut can be made
pub way_can : (root : Ranges) (slots : List Slot) (top leaf n : ℕ) (slot : Slot) (box : Ranges) → AreSlots root slots → n < length slots →
    slot ≡ slot_of slots n → IsOnItsWay root slots top leaf n box → CanMeet box slot.entry
way_can root slots top leaf n slot box kept there slot_is way =
    let is = kept.each n there in
    let parent : ℕ = (slot_of slots n).parent in
    rw slot_is
    (can_meet (node_box root slots leaf) (node_box root slots (slot_of slots n).parent) box (slot_of slots n).entry (above_is_box root slots leaf kept)
    (above_is_box root slots (slot_of slots n).parent kept) is.entry (lows_same root slots leaf (slot_of slots n).parent)
    (way.within.as_many_lows ∙ lows_same root slots top (slot_of slots n).parent)
    (subst (λ (inner : Ranges). IsMeet (node_box root slots leaf) inner box) is.box way.meet))

-- it is made
pub way_goes_on : (root : Ranges) (slots : List Slot) (top leaf n : ℕ) (slot : Slot) (box new : Ranges) → AreSlots root slots → n < length slots →
    slot ≡ slot_of slots n → IsOnItsWay root slots top leaf n box → new ≡ met slot.entry box → IsOnItsWay root slots top leaf slot.parent new
way_goes_on root slots top leaf n slot box new kept there slot_is way new_is =
    let is = kept.each n there in
    let can = subst (λ (s : Slot). CanMeet box s.entry) slot_is (way_can root slots top leaf n slot box kept there slot_is way) in
    let long = way.within.as_many_lows ∙ lows_same root slots top (slot_of slots n).parent in
    let long_highs = way.within.as_many_highs ∙ highs_same root slots top (slot_of slots n).parent kept in
    let same = way.within.as_many_highs ∙ (above_is_box root slots top kept).same ∙ sym way.within.as_many_lows in
    rw (new_is, slot_is)
    (record {
      meet = meet_more (node_box root slots leaf) (node_box root slots (slot_of slots n).parent) box (slot_of slots n).entry
          (above_is_box root slots (slot_of slots n).parent kept) is.entry long long_highs
          (subst (λ (inner : Ranges). IsMeet (node_box root slots leaf) inner box) is.box way.meet);
      within = met_within box (node_box root slots top) (slot_of slots n).entry can same way.within;
    })

-- and at its end the box is the leaf's
pub way_ends : (root : Ranges) (slots : List Slot) (top leaf n : ℕ) (box : Ranges) → AreSlots root slots → n ≡ top → IsOnItsWay root slots top leaf n box →
    box ≡ node_box root slots leaf
way_ends root slots top leaf n box kept same way =
    meet_is (node_box root slots leaf) (node_box root slots top) box (lows_same root slots leaf top) (highs_same root slots leaf top kept)
    (subst (λ (m : ℕ). IsMeet (node_box root slots leaf) (node_box root slots m) box) same way.meet) way.within
