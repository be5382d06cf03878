-- What moves in one step (docs/traffic.md, "The flow of a step"). After Daganzo 1994 and 1995; the floors, the
-- parcels and the gate as a capacity of 0 are this project's own.
use Rattle.std.specs.Prelude.{ℕ, ◌+◌, ◌-◌, ◌*◌, ◌/◌, ◌==◌, min, Bool, true, false, if◌then◌else◌, List, [], ◌∷◌, map, fold, length, position, Option, Some, None, unwrap_or, slice_index, slice_index_or}
use Rattle.std.specs.Int.{bit_at}
use Rattle.ct_base.specs.Access.{cell_of, parcel}
use Rattle.listed.specs.Below.{sum_below}
use Rattle.ct_base.specs.declared.cell.Cell.{Cell}
use Rattle.ct_base.specs.declared.cell.Gate.{Gate}
use Rattle.ct_base.specs.declared.cell.Out.{Out}
use Rattle.ct_base.specs.declared.cell.Out.TheVariants.{Exit, To, Turns}
use Rattle.ct_base.specs.declared.plan.Letter.{Letter}
use Rattle.ct_base.specs.declared.plan.Letter.TheVariants.{Green, Clear}

-- a letter is the green of a phase of the set
abbrev pub is_green_among : ℕ → Letter → Bool
is_green_among greens (Green p) = bit_at greens p == 1
is_green_among greens (Clear p) = false

-- what a signal shows, one letter per signal being given
abbrev pub letter_of : List Letter → ℕ → Letter
letter_of letters s = slice_index_or letters s (Clear 0)

-- a cell with this gate lets units leave
abbrev pub is_open : List Letter → Option Gate → Bool
is_open letters None = true
is_open letters (Some gate) = is_green_among gate.greens (letter_of letters gate.signal)

-- the least of some numbers
abbrev pub least : List ℕ → ℕ
least [] = 0
least (x ∷ xs) = fold min x xs

-- the place of the first of the least
abbrev pub first_least : List ℕ → ℕ
first_least xs = unwrap_or (position (λ x. x == least xs) xs) 0

-- the units that a cell has room for in a step: a part of its free storage, in whole units
abbrev pub receiving : Cell → ℕ → ℕ
receiving cell held = cell.wave_p * (cell.store - held) / cell.wave_q

-- the most that may leave a cell in a step where it is open: units, or at a diverge parcels
abbrev pub cap_of : List Cell → Cell → Out → ℕ
cap_of cells cell Exit = cell.cap
cap_of cells cell (To b) = min cell.cap (cell_of cells b).cap
cap_of cells cell (Turns branches) = least (cell.cap / parcel branches ∷ map (λ (branch : ℕ × ℕ). (cell_of cells branch.0).cap / branch.1) branches)

-- the sending and receiving terms of a move, held units being given for each cell
abbrev pub further_terms : List Cell → List ℕ → ℕ → Out → List ℕ
further_terms cells units i Exit = slice_index units i ∷ []
further_terms cells units i (To b) = slice_index units i ∷ receiving (cell_of cells b) (slice_index units b) ∷ []
further_terms cells units i (Turns branches) =
    slice_index units i / parcel branches ∷ map (λ (branch : ℕ × ℕ). receiving (cell_of cells branch.0) (slice_index units branch.0) / branch.1) branches

-- the terms of the move out of cell i: the cap, or 0 where the cell is not open; the sending term; the receiving terms
abbrev pub terms : List Cell → List Letter → List ℕ → ℕ → List ℕ
terms cells letters units i =
    let cell = cell_of cells i in
    (if is_open letters cell.gate then cap_of cells cell cell.out else 0) ∷ further_terms cells units i cell.out

-- the flow of the move out of cell i: the least term, in units, or at a diverge in parcels
unfoldable pub flow : List Cell → List Letter → List ℕ → ℕ → ℕ
flow cells letters units i = least (terms cells letters units i)

-- the place of the term that decides the flow
abbrev pub first_least_term : List Cell → List Letter → List ℕ → ℕ → ℕ
first_least_term cells letters units i = first_least (terms cells letters units i)

-- how many units leave a cell with one unit of flow
abbrev pub units_of_flow : Out → ℕ
units_of_flow Exit = 1
units_of_flow (To b) = 1
units_of_flow (Turns branches) = parcel branches

-- how many units of a parcel go to cell j
abbrev pub parcel_to : ℕ → List (ℕ × ℕ) → ℕ
parcel_to j [] = 0
parcel_to j (branch ∷ branches) = (if branch.0 == j then branch.1 else 0) + parcel_to j branches

-- how many units enter cell j with one unit of flow
abbrev pub share : Out → ℕ → ℕ
share Exit j = 0
share (To b) j = if b == j then 1 else 0
share (Turns branches) j = parcel_to j branches

-- the units that leave cell i in a step
unfoldable pub outflow : List Cell → List Letter → List ℕ → ℕ → ℕ
outflow cells letters units i = units_of_flow (cell_of cells i).out * flow cells letters units i

-- the units that enter cell j in a step from other cells
unfoldable pub inflow : List Cell → List Letter → List ℕ → ℕ → ℕ
inflow cells letters units j = sum_below (length cells) (λ i. share (cell_of cells i).out j * flow cells letters units i)
