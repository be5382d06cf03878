-- What entering a node has changed of the box of the node above it.
use Rattle.std.specs.Prelude.{◌≡◌, ℕ, ◌==◌, ◌^◌, ◌<◌, ℤ, pos, ◌+ℤ◌, ◌≤ℤ◌, if◌then◌else◌, Option, Some, None, length, unsigned_abs, slice_set}
use Rattle.std.specs.Int.{int_max, int_min}
use Rattle.sparse_program.specs.Box.{Ranges, high_of, low_of}
use Rattle.sparse_program.specs.Terms.{IsSmall}
use Rattle.certificate_model.specs.Tree.{IsSplit, left_of, right_of}
use Rattle.branch_tree.specs.declared.slot.Entry.{Entry}
use Rattle.branch_tree.specs.declared.slot.Entry.TheVariants.{Root, Left, Right}

-- the box that is entered
abbrev pub entered : Entry → Ranges → Ranges
entered Root box = box
entered (Left column at high) box = left_of box column at
entered (Right column at low) box = right_of box column at

-- the box that is left, from the one that was entered
abbrev pub set_back : Entry → Ranges → Ranges
set_back Root box = box
set_back (Left column at high) box = record box { highs = slice_set box.highs column high }
set_back (Right column at low) box = record box { lows = slice_set box.lows column low }

-- the entry is into a side of a split of the box, whose bound it keeps
abbrev pub IsEntry : Ranges → Entry → Type 0
IsEntry box Root = Unit {0}
IsEntry box (Left column at high) = IsSplit box column at × (high ≡ high_of box column)
IsEntry box (Right column at low) = IsSplit box column at × (low ≡ low_of box column)

-- the high that entering gives a column, where it changes that
abbrev pub new_high : Entry → ℕ → Option ℤ
new_high Root j = None
new_high (Left column at high) j = if column == j then Some at else None
new_high (Right column at low) j = None

-- the low that entering gives a column, where it changes that
abbrev pub new_low : Entry → ℕ → Option ℤ
new_low Root j = None
new_low (Left column at high) j = None
new_low (Right column at low) j = if column == j then Some (at +ℤ pos 1) else None

-- the low that entering gives is a number of 64 bits
abbrev pub HasNextLow : Entry → Type 0
HasNextLow Root = Unit {0}
HasNextLow (Left column at high) = Unit {0}
HasNextLow (Right column at low) = unsigned_abs (at +ℤ pos 1) < 2 ^ 63

-- the bound that entering has changed can be set back in the box that was entered
abbrev pub CanSetBack : Ranges → Entry → Type 0
CanSetBack box Root = Unit {0}
CanSetBack box (Left column at high) = (column < length box.lows) × (low_of box column ≤ℤ high) × IsSmall high
CanSetBack box (Right column at low) = (column < length box.lows) × (low ≤ℤ high_of box column) × IsSmall low

-- the box cut to the side that is entered, which it may lie in already
abbrev pub met : Entry → Ranges → Ranges
met Root box = box
met (Left column at high) box = record box { highs = slice_set box.highs column (int_min at (high_of box column)) }
met (Right column at low) box = record box { lows = slice_set box.lows column (int_max (at +ℤ pos 1) (low_of box column)) }

-- some of the box lies in the side
abbrev pub CanMeet : Ranges → Entry → Type 0
CanMeet box Root = Unit {0}
CanMeet box (Left column at high) = (column < length box.lows) × (low_of box column ≤ℤ at)
CanMeet box (Right column at low) = (column < length box.lows) × ((at +ℤ pos 1) ≤ℤ high_of box column) × (unsigned_abs (at +ℤ pos 1) < 2 ^ 63)

-- a box lies in another
pub record IsWithin (box outer : Ranges) : Type 0 where
  pub as_many_lows : length box.lows ≡ length outer.lows
  pub as_many_highs : length box.highs ≡ length outer.highs
  pub lows : (j : ℕ) → low_of outer j ≤ℤ low_of box j
  pub highs : (j : ℕ) → high_of box j ≤ℤ high_of outer j

-- a box is what two others have in common
pub record IsMeet (box first second : Ranges) : Type 0 where
  pub lows : (j : ℕ) → low_of box j ≡ int_max (low_of first j) (low_of second j)
  pub highs : (j : ℕ) → high_of box j ≡ int_min (high_of first j) (high_of second j)
