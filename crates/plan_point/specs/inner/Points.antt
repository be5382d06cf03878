-- What the columns of a network count, list by list as the code goes over them, from what the signals show and what the
-- cells hold.
use Rattle.std.specs.Prelude.{ℕ, ◌-◌, ◌*◌, ◌/◌, ◌%◌, ◌==◌, nat_lt, if◌then◌else◌, ℤ, pos, List, [], ◌∷◌, ◌++◌, length, map, flat_map, slice_index}
use Rattle.listed.specs.Below.{table_of}
use Rattle.ct_base.specs.Access.{cell_of, parcel}
use Rattle.ct_base.specs.declared.cell.Cell.{Cell}
use Rattle.ct_base.specs.declared.cell.Out.{Out}
use Rattle.ct_base.specs.declared.cell.Out.TheVariants.{Exit, To, Turns}
use Rattle.ct_base.specs.declared.net.Net.{Net}
use Rattle.ct_base.specs.declared.plan.Letter.{Letter}
use Rattle.traffic_model.specs.Flow.{first_least, least, receiving, terms}
use Rattle.program_model.specs.Columns.{Column, has_room}
use Rattle.program_model.specs.Values.{is_letter, one_where, value_of}

-- what columns count under the words of a plan
abbrev pub counts : Net → List (List Letter) → List Column → List ℤ
counts net words columns = map (λ (c : Column). pos (value_of net words c)) columns

-- what the bit of a letter counts where a signal shows a letter
abbrev pub bit_count : Letter → Letter → ℤ
bit_count shown letter = pos (one_where (is_letter letter shown))

-- the units that a cell has room for, and the rest of their division
abbrev pub room_counts : Cell → ℕ → List ℤ
room_counts cell held = pos (receiving cell held) ∷ pos ((cell.wave_p * (cell.store - held)) % cell.wave_q) ∷ []

-- the units in a cell, and its room where that is a column
abbrev pub unit_counts : List Cell → List ℕ → ℕ → List ℤ
unit_counts cells units i = pos (slice_index units i) ∷ (if has_room cells i then room_counts (cell_of cells i) (slice_index units i) else [])

-- the parcels that the cell of a branch has room for, and the rest, where the parcel has more than one unit
abbrev pub branch_counts : List Cell → List ℕ → ℕ × ℕ → List ℤ
branch_counts cells units branch =
    let room = receiving (cell_of cells branch.0) (slice_index units branch.0) in
    if nat_lt 1 branch.1 then pos (room / branch.1) ∷ pos (room % branch.1) ∷ [] else []

-- the parcels in a diverge, and the rest, and the same of the room of its branches
abbrev pub split_counts : List Cell → List ℕ → ℕ → Out → List ℤ
split_counts cells units held Exit = []
split_counts cells units held (To b) = []
split_counts cells units held (Turns branches) = pos (held / parcel branches) ∷ pos (held % parcel branches) ∷ flat_map (branch_counts cells units) branches

-- the flow of a move, and a switch for each of its terms
abbrev pub move_counts : List ℕ → List ℤ
move_counts terms = pos (least terms) ∷ table_of (length terms) (λ m. pos (one_where (m == first_least terms)))

-- what the columns of cell i count
unfoldable pub cell_counts : List Cell → List Letter → List ℕ → ℕ → List ℤ
cell_counts cells letters units i =
    unit_counts cells units i ++ split_counts cells units (slice_index units i) (cell_of cells i).out ++ move_counts (terms cells letters units i)
