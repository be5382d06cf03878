-- The numbers of columns: how many stand before each (docs/program.md, "Columns").
use Rattle.std.specs.Prelude.{ℕ, ◌+◌, ◌*◌, nat_lt, if◌then◌else◌, List, [], length, slice_index_or}
use Rattle.listed.specs.Below.{sum_below}
use Rattle.ct_base.specs.Access.{cell_of, phase_of, signal_of}
use Rattle.ct_base.specs.declared.cell.Cell.{Cell}
use Rattle.ct_base.specs.declared.cell.Out.{Out}
use Rattle.ct_base.specs.declared.cell.Out.TheVariants.{Exit, To, Turns}
use Rattle.ct_base.specs.declared.net.Net.{Net}
use Rattle.ct_base.specs.declared.plan.Letter.{Letter}
use Rattle.ct_base.specs.declared.plan.Letter.TheVariants.{Green, Clear}
use Rattle.ct_base.specs.declared.signal.Signal.{Signal}
use Rattle.program_model.specs.Columns.{Column, Bit, Units, Room, RoomRest, Parcels, ParcelsRest, BranchRoom, BranchRest, Flow, Switch, columns_of_cell, columns_of_split, has_room, letters_by, letters_of}

-- the letters of a signal's phases before phase p
abbrev pub letters_before : Signal → ℕ → ℕ
letters_before signal p = sum_below p (λ q. length (letters_by q (phase_of signal q).clear))

-- the place of a letter among those of its signal
abbrev pub place_of_letter : Signal → Letter → ℕ
place_of_letter signal (Green p) = letters_before signal p
place_of_letter signal (Clear p) = letters_before signal p + 1

-- the bits of a step of the signals before signal s
abbrev pub bits_before : List Signal → ℕ → ℕ
bits_before signals s = sum_below s (λ r. length (letters_of (signal_of signals r)))

-- the plan columns of a step
abbrev pub bits_of_step : List Signal → ℕ
bits_of_step signals = bits_before signals (length signals)

-- the plan columns
abbrev pub plan_count : Net → ℕ
plan_count net = net.steps * bits_of_step net.signals

-- the columns of a step of the cells before cell i
abbrev pub cells_before : List Cell → ℕ → ℕ
cells_before cells i = sum_below i (λ j. length (columns_of_cell cells 0 j))

-- the first column of cell i at step t
unfoldable pub first_column : Net → ℕ → ℕ → ℕ
first_column net t i = plan_count net + t * cells_before net.cells (length net.cells) + cells_before net.cells i

-- behind the units of cell i, and its room where that is a column
abbrev pub after_room : List Cell → ℕ → ℕ
after_room cells i = if has_room cells i then 3 else 1

-- the columns of a split's branches before branch k
abbrev pub branches_before : List (ℕ × ℕ) → ℕ → ℕ
branches_before branches k = sum_below k (λ j. if nat_lt 1 (slice_index_or branches j (0, 0)).1 then 2 else 0)

-- the branches of a move
abbrev pub branches_of : Out → List (ℕ × ℕ)
branches_of Exit = []
branches_of (To b) = []
branches_of (Turns branches) = branches

-- the place of the flow among the columns of cell i
abbrev pub place_of_flow : List Cell → ℕ → ℕ
place_of_flow cells i = after_room cells i + length (columns_of_split 0 0 (cell_of cells i).out)

-- the number of a column
abbrev pub number_of : Net → Column → ℕ
number_of net (Bit t s letter) = t * bits_of_step net.signals + bits_before net.signals s + place_of_letter (signal_of net.signals s) letter
number_of net (Units t i) = first_column net t i
number_of net (Room t i) = first_column net t i + 1
number_of net (RoomRest t i) = first_column net t i + 2
number_of net (Parcels t i) = first_column net t i + after_room net.cells i
number_of net (ParcelsRest t i) = first_column net t i + after_room net.cells i + 1
number_of net (BranchRoom t i k) = first_column net t i + after_room net.cells i + 2 + branches_before (branches_of (cell_of net.cells i).out) k
number_of net (BranchRest t i k) = first_column net t i + after_room net.cells i + 3 + branches_before (branches_of (cell_of net.cells i).out) k
number_of net (Flow t i) = first_column net t i + place_of_flow net.cells i
number_of net (Switch t i m) = first_column net t i + place_of_flow net.cells i + 1 + m
