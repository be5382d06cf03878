-- The columns of one cell at one step, part by part.
use Rattle.std.proofs.Common.{◌≡◌, ℕ, ◌+◌, List, [], ◌∷◌, ◌++◌, length, ◌∙◌, arith, append_assoc, length-append}
use Rattle.std.specs.Prelude.{if◌then◌else◌}
use Rattle.listed.specs.Below.{table_of}
use Rattle.listed.proofs.TableLaws.{length-table_of}
use Rattle.ct_base.specs.Access.{cell_of}
use Rattle.ct_base.specs.declared.net.Net.{Net}
use Rattle.program_model.specs.Columns.{Column, Flow, Room, RoomRest, Switch, Units, columns_of_cell, columns_of_split, has_room, term_count}

-- the room of a cell, where it is a column
abbrev pub room_columns : Net → ℕ → ℕ → List Column
room_columns net t i = if has_room net.cells i then Room t i ∷ RoomRest t i ∷ [] else []

-- the parcels and the branches of a diverge
abbrev pub split_columns : Net → ℕ → ℕ → List Column
split_columns net t i = columns_of_split t i (cell_of net.cells i).out

-- the switches of a cell's move
abbrev pub switches : Net → ℕ → ℕ → List Column
switches net t i = table_of (term_count (cell_of net.cells i).out) (Switch t i)

-- the columns of a cell before its flow
abbrev pub before_flow : Net → ℕ → ℕ → List Column
before_flow net t i = Units t i ∷ [] ++ room_columns net t i ++ split_columns net t i

-- one part behind the other they are all columns of the cell
pub parts_of_cell : (net : Net) (t i : ℕ) → before_flow net t i ++ Flow t i ∷ [] ++ switches net t i ≡ columns_of_cell net.cells t i
unfolding columns_of_cell
parts_of_cell net t i = append_assoc (before_flow net t i) (Flow t i ∷ []) (switches net t i)

-- as many as all parts
pub length-parts : (net : Net) (t i : ℕ) → length (columns_of_cell net.cells t i) ≡ 2 + length (room_columns net t i) + length (split_columns net t i) + term_count (cell_of net.cells i).out
unfolding columns_of_cell
length-parts net t i =
    length-append (before_flow net t i) (Flow t i ∷ switches net t i)
    ∙ (omega (arith, length-append (Units t i ∷ room_columns net t i) (split_columns net t i), length-table_of (term_count (cell_of net.cells i).out) (Switch t i)))
