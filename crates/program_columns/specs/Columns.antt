-- A builder to which columns of a network are added, and what has arrived at a cell.
use Rattle.std.specs.Prelude.{◌≡◌, ℕ, List, ◌++◌, map, take}
use Rattle.listed.specs.Below.{sum_below}
use Rattle.ct_base.specs.Access.{cell_of}
use Rattle.ct_base.specs.declared.cell.Cell.{Cell}
use Rattle.ct_base.specs.declared.net.Net.{Net}
use Rattle.sparse_program.specs.Program.{Begun}
use Rattle.traffic_model.specs.Occupancy.{demand_at}
use Rattle.program_model.specs.Columns.{Column}
use Rattle.program_model.specs.Points.{col}

-- the builder with these columns of the network behind its own
abbrev pub with_columns : Net → Begun → List Column → Begun
with_columns net begun more = record begun { columns = begun.columns ++ map (col net) more }

-- a front of these columns stands behind its own, all of them or fewer, and nothing else changed
abbrev pub IsWithFront : Net → Begun → List Column → Begun → Type 0
IsWithFront net old more new = (count : ℕ) × (new ≡ with_columns net old (take count more))

-- the units that have arrived at cell i before step t
abbrev pub arrived_before : List Cell → ℕ → ℕ → ℕ
arrived_before cells t i = sum_below t (demand_at (cell_of cells i))
