-- The rows that move units (docs/program.md, "Flow rows"): floors, the flow of each move, and what cells hold in the next step.
use Rattle.std.specs.Prelude.{ℕ, ◌+◌, ◌-◌, ◌/◌, nat_lt, if◌then◌else◌, pos, List, [], ◌∷◌, ◌++◌, length, map, filter, Option, Some, None}
use Rattle.listed.specs.Below.{join_below, table_of}
use Rattle.ct_base.specs.Access.{cell_of, signal_of}
use Rattle.ct_base.specs.declared.cell.Cell.{Cell}
use Rattle.ct_base.specs.declared.cell.Gate.{Gate}
use Rattle.ct_base.specs.declared.cell.Out.{Out}
use Rattle.ct_base.specs.declared.cell.Out.TheVariants.{Exit, To, Turns}
use Rattle.ct_base.specs.declared.net.Net.{Net}
use Rattle.ct_base.specs.declared.signal.Signal.{Signal}
use Rattle.traffic_model.specs.Flow.{cap_of, is_green_among, share, units_of_flow}
use Rattle.traffic_model.specs.Occupancy.{demand_at}
use Rattle.program_model.specs.Columns.{Column, Bit, Units, Room, RoomRest, Parcels, ParcelsRest, BranchRoom, BranchRest, Flow, Switch, has_room, letters_of}
use Rattle.program_model.specs.Rows.{Sum, SumRow, column, equals, minus, number, plus, times, total}
use Rattle.program_model.specs.SwitchRows.{Term, floor_row, least_rows}
use Rattle.program_model.specs.Values.{least_units, most_room, most_units}

-- the units that cell b has room for: a column, or its free storage
abbrev pub room : List Cell → ℕ → ℕ → Sum Column
room cells t b = if has_room cells b then column (Room t b) else minus (number (cell_of cells b).store) (column (Units t b))

-- the most of them
abbrev pub room_most : List Cell → ℕ → ℕ → ℕ
room_most cells t b = if has_room cells b then most_room (cell_of cells b) else (cell_of cells b).store - least_units (cell_of cells b) t

-- the room of a cell is a part of its free storage, where that is a column
abbrev pub room_rows : List Cell → ℕ → ℕ → List (SumRow Column)
room_rows cells t i =
    let cell = cell_of cells i in
    if has_room cells i
    then floor_row (Room t i) (RoomRest t i) cell.wave_q (times (pos cell.wave_p) (minus (number cell.store) (column (Units t i)))) ∷ []
    else []

-- the parcels that a branch has room for, where its parcel has more than one unit
abbrev pub branch_rows : List Cell → ℕ → ℕ → ℕ → ℕ × ℕ → List (SumRow Column)
branch_rows cells t i k branch = if nat_lt 1 branch.1 then floor_row (BranchRoom t i k) (BranchRest t i k) branch.1 (room cells t branch.0) ∷ [] else []

-- the same of branches, of which the first has number k
abbrev pub branches_rows : List Cell → ℕ → ℕ → ℕ → List (ℕ × ℕ) → List (SumRow Column)
branches_rows cells t i k [] = []
branches_rows cells t i k (branch ∷ branches) = branch_rows cells t i k branch ++ branches_rows cells t i (k + 1) branches

-- the floors of a diverge: its parcels, and those of its branches
abbrev pub split_rows : List Cell → ℕ → ℕ → Out → List (SumRow Column)
split_rows cells t i Exit = []
split_rows cells t i (To b) = []
split_rows cells t i (Turns branches) = floor_row (Parcels t i) (ParcelsRest t i) (units_of_flow (Turns branches)) (column (Units t i)) ∷ branches_rows cells t i 0 branches

-- the cap of a move, where its cell is open
abbrev pub gated_cap : List Signal → ℕ → ℕ → Option Gate → Sum Column
gated_cap signals t cap None = number cap
gated_cap signals t cap (Some gate) = times (pos cap) (total (map (Bit t gate.signal) (filter (is_green_among gate.greens) (letters_of (signal_of signals gate.signal)))))

-- the term of a branch: the parcels that its cell has room for
abbrev pub branch_term : List Cell → ℕ → ℕ → ℕ → ℕ × ℕ → Term Column
branch_term cells t i k branch =
    if nat_lt 1 branch.1
    then record { of = column (BranchRoom t i k); most = most_room (cell_of cells branch.0) / branch.1 }
    else record { of = room cells t branch.0; most = room_most cells t branch.0 }

-- the terms of branches, of which the first has number k
abbrev pub branch_terms : List Cell → ℕ → ℕ → ℕ → List (ℕ × ℕ) → List (Term Column)
branch_terms cells t i k [] = []
branch_terms cells t i k (branch ∷ branches) = branch_term cells t i k branch ∷ branch_terms cells t i (k + 1) branches

-- the sending and receiving terms of the move out of cell i
abbrev pub further_terms : List Cell → ℕ → ℕ → Out → List (Term Column)
further_terms cells t i Exit = record { of = column (Units t i); most = most_units (cell_of cells i) t } ∷ []
further_terms cells t i (To b) = record { of = column (Units t i); most = most_units (cell_of cells i) t } ∷ record { of = room cells t b; most = room_most cells t b } ∷ []
further_terms cells t i (Turns branches) =
    record { of = column (Parcels t i); most = most_units (cell_of cells i) t / units_of_flow (Turns branches) } ∷ branch_terms cells t i 0 branches

-- the terms of the move out of cell i, of which the first is its cap
abbrev pub move_terms : Net → ℕ → ℕ → List (Term Column)
move_terms net t i =
    let cell = cell_of net.cells i in
    let cap = cap_of net.cells cell cell.out in
    record { of = gated_cap net.signals t cap cell.gate; most = cap } ∷ further_terms net.cells t i cell.out

-- the units that enter cell i
abbrev pub entering : List Cell → ℕ → ℕ → Sum Column
entering cells t i = record { constant = pos 0; terms = table_of (length cells) (λ j. (Flow t j, pos (share (cell_of cells j).out i))) }

-- what cell i holds in the next step: what it holds, less what leaves it, with what enters it and arrives
abbrev pub conservation_row : List Cell → ℕ → ℕ → SumRow Column
conservation_row cells t i =
    let leaving = times (pos (units_of_flow (cell_of cells i).out)) (column (Flow t i)) in
    equals (plus (minus (column (Units (t + 1) i)) (column (Units t i))) (minus leaving (entering cells t i))) (pos (demand_at (cell_of cells i) t))

-- where there is a next step
abbrev pub conservation_rows : List Cell → ℕ → ℕ → ℕ → List (SumRow Column)
conservation_rows cells steps t i = if nat_lt (t + 1) steps then conservation_row cells t i ∷ [] else []

-- the flow rows of cell i at step t
unfoldable pub flow_rows_at : Net → ℕ → ℕ → List (SumRow Column)
flow_rows_at net t i =
    room_rows net.cells t i
    ++ split_rows net.cells t i (cell_of net.cells i).out
    ++ least_rows (Flow t i) (move_terms net t i) (Switch t i)
    ++ conservation_rows net.cells net.steps t i

-- the flow rows: step by step, and of each cell by cell
unfoldable pub flow_rows : Net → List (SumRow Column)
flow_rows net = join_below net.steps (λ t. join_below (length net.cells) (flow_rows_at net t))
