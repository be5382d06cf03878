-- What a column may count, and what it counts under a plan (docs/program.md, "Columns" and "Points").
use Rattle.std.specs.Prelude.{ℕ, zero, suc, ◌-◌, ◌*◌, ◌/◌, ◌%◌, ◌==◌, Bool, false, if◌then◌else◌, ℤ, pos, neg_ℤ, List, slice_index, slice_index_or}
use Rattle.ct_base.specs.Access.{cell_of, signal_of}
use Rattle.ct_base.specs.declared.cell.Cell.{Cell}
use Rattle.ct_base.specs.declared.cell.Out.{Out}
use Rattle.ct_base.specs.declared.net.Net.{Net}
use Rattle.ct_base.specs.declared.plan.Letter.{Letter}
use Rattle.ct_base.specs.declared.plan.Letter.TheVariants.{Green, Clear}
use Rattle.traffic_model.specs.Delay.{letters_at}
use Rattle.traffic_model.specs.Flow.{cap_of, first_least_term, flow, letter_of, receiving, units_of_flow}
use Rattle.traffic_model.specs.Occupancy.{most_held, occupancies}
use Rattle.program_model.specs.Columns.{Column, Bit, Units, Room, RoomRest, Parcels, ParcelsRest, BranchRoom, BranchRest, Flow, Switch}
use Rattle.program_model.specs.Numbers.{branches_of}

-- the letters are the same
abbrev pub is_letter : Letter → Letter → Bool
is_letter (Green p) (Green q) = p == q
is_letter (Clear p) (Clear q) = p == q
is_letter (Green p) (Clear q) = false
is_letter (Clear p) (Green q) = false

-- 1 where a test holds
abbrev pub one_where : Bool → ℕ
one_where holds = if holds then 1 else 0

-- branch k of a move
abbrev pub branch_of : Out → ℕ → ℕ × ℕ
branch_of out k = slice_index_or (branches_of out) k (0, 1)

-- the least units that a cell may hold at step t: at step 0 its initial units, which are fixed
abbrev pub least_units : Cell → ℕ → ℕ
least_units cell zero = cell.initial
least_units cell (suc t) = 0

-- the greatest units that a cell may hold at step t
abbrev pub most_units : Cell → ℕ → ℕ
most_units cell zero = cell.initial
most_units cell (suc t) = most_held cell.kind cell (suc t)

-- the greatest room of a cell
abbrev pub most_room : Cell → ℕ
most_room cell = cell.wave_p * cell.store / cell.wave_q

-- the least value of a column: at step 0 each signal shows the green of its starting phase
abbrev pub least_of : Net → Column → ℕ
least_of net (Bit zero s letter) = one_where (is_letter letter (Green (signal_of net.signals s).start))
least_of net (Units t i) = least_units (cell_of net.cells i) t
least_of net _ = 0

-- its greatest value
abbrev pub most_of : Net → Column → ℕ
most_of net (Bit zero s letter) = one_where (is_letter letter (Green (signal_of net.signals s).start))
most_of net (Bit (suc t) s letter) = 1
most_of net (Units t i) = most_units (cell_of net.cells i) t
most_of net (Room t i) = most_room (cell_of net.cells i)
most_of net (RoomRest t i) = (cell_of net.cells i).wave_q - 1
most_of net (Parcels t i) = most_units (cell_of net.cells i) t / units_of_flow (cell_of net.cells i).out
most_of net (ParcelsRest t i) = units_of_flow (cell_of net.cells i).out - 1
most_of net (BranchRoom t i k) = let branch = branch_of (cell_of net.cells i).out k in most_room (cell_of net.cells branch.0) / branch.1
most_of net (BranchRest t i k) = (branch_of (cell_of net.cells i).out k).1 - 1
most_of net (Flow t i) = cap_of net.cells (cell_of net.cells i) (cell_of net.cells i).out
most_of net (Switch t i m) = 1

-- what one unit of a column costs: a unit that a cell holds costs one, and one that leaves it gives that back
abbrev pub cost_of : Net → Column → ℤ
cost_of net (Units t i) = pos 1
cost_of net (Flow t i) = neg_ℤ (pos (units_of_flow (cell_of net.cells i).out))
cost_of net _ = pos 0

-- what cell i holds at step t under the words of a plan
abbrev pub units_at : Net → List (List Letter) → ℕ → ℕ → ℕ
units_at net words t i = slice_index (occupancies net.cells (letters_at words) t) i

-- the units that cell i has room for
abbrev pub room_at : Net → List (List Letter) → ℕ → ℕ → ℕ
room_at net words t i = receiving (cell_of net.cells i) (units_at net words t i)

-- what a column counts under the words of a plan
abbrev pub value_of : Net → List (List Letter) → Column → ℕ
value_of net words (Bit t s letter) = one_where (is_letter letter (letter_of (letters_at words t) s))
value_of net words (Units t i) = units_at net words t i
value_of net words (Room t i) = room_at net words t i
value_of net words (RoomRest t i) = let cell = cell_of net.cells i in (cell.wave_p * (cell.store - units_at net words t i)) % cell.wave_q
value_of net words (Parcels t i) = units_at net words t i / units_of_flow (cell_of net.cells i).out
value_of net words (ParcelsRest t i) = units_at net words t i % units_of_flow (cell_of net.cells i).out
value_of net words (BranchRoom t i k) = let branch = branch_of (cell_of net.cells i).out k in room_at net words t branch.0 / branch.1
value_of net words (BranchRest t i k) = let branch = branch_of (cell_of net.cells i).out k in room_at net words t branch.0 % branch.1
value_of net words (Flow t i) = flow net.cells (letters_at words t) (occupancies net.cells (letters_at words) t) i
value_of net words (Switch t i m) = one_where (m == first_least_term net.cells (letters_at words t) (occupancies net.cells (letters_at words) t) i)
