-- The flow rows as the code adds them: of a step, and floor by floor.
use Rattle.std.specs.Prelude.{ℕ, pos, List, length}
use Rattle.listed.specs.Below.{join_below}
use Rattle.ct_base.specs.Access.{cell_of, parcel}
use Rattle.ct_base.specs.declared.cell.Cell.{Cell}
use Rattle.ct_base.specs.declared.net.Net.{Net}
use Rattle.program_model.specs.Columns.{BranchRest, BranchRoom, Column, Parcels, ParcelsRest, Room, RoomRest, Units}
use Rattle.program_model.specs.FlowRows.{flow_rows_at, room}
use Rattle.program_model.specs.Rows.{Sum, SumRow, column, minus, number, times}
use Rattle.program_model.specs.SwitchRows.{floor_row}

-- the flow rows of a step, cell by cell
abbrev pub rows_of_step : Net → ℕ → List (SumRow Column)
rows_of_step net t = join_below (length net.cells) (flow_rows_at net t)

-- the free storage of cell i, as many times as the numerator of its wave ratio
abbrev pub free_storage : List Cell → ℕ → ℕ → Sum Column
free_storage cells t i = times (pos (cell_of cells i).wave_p) (minus (number (cell_of cells i).store) (column (Units t i)))

-- the floor of a cell's room
abbrev pub room_row : List Cell → ℕ → ℕ → SumRow Column
room_row cells t i = floor_row (Room t i) (RoomRest t i) (cell_of cells i).wave_q (free_storage cells t i)

-- the floor of the parcels of a diverge with these branches
abbrev pub parcels_row : ℕ → ℕ → List (ℕ × ℕ) → SumRow Column
parcels_row t i branches = floor_row (Parcels t i) (ParcelsRest t i) (parcel branches) (column (Units t i))

-- the floor of the parcels that branch k of a diverge has room for
abbrev pub branch_row : List Cell → ℕ → ℕ → ℕ → ℕ × ℕ → SumRow Column
branch_row cells t i k branch = floor_row (BranchRoom t i k) (BranchRest t i k) branch.1 (room cells t branch.0)
