-- What the columns of a network are, one by one (docs/program.md, "Columns"): each stands in the list of columns.
use Rattle.std.specs.Prelude.{◌≡◌, ℕ, ◌<◌, true, length, slice_index_or}
use Rattle.ct_base.specs.Access.{cell_of, phase_of, signal_of}
use Rattle.ct_base.specs.declared.cell.Out.{Out}
use Rattle.ct_base.specs.declared.cell.Out.TheVariants.{Exit, To, Turns}
use Rattle.ct_base.specs.declared.net.Net.{Net}
use Rattle.ct_base.specs.declared.plan.Letter.{Letter}
use Rattle.ct_base.specs.declared.plan.Letter.TheVariants.{Green, Clear}
use Rattle.ct_base.specs.declared.signal.Signal.{Signal}
use Rattle.program_model.specs.Columns.{Column, Bit, Units, Room, RoomRest, Parcels, ParcelsRest, BranchRoom, BranchRest, Flow, Switch, has_room, term_count}
use Rattle.program_model.specs.Numbers.{branches_of}

-- a letter of a signal: of one of its phases, and a clearing letter only where the phase has clearing
abbrev pub IsLetterOf : Signal → Letter → Type 0
IsLetterOf signal (Green p) = p < length signal.phases
IsLetterOf signal (Clear p) = (p < length signal.phases) × (0 < (phase_of signal p).clear)

-- a cell at a step below the horizon
pub record IsPlace (net : Net) (t i : ℕ) : Type 0 where
  pub before : t < net.steps
  pub inside : i < length net.cells

-- the move out of the cell is a diverge
abbrev pub IsDiverge : Out → Type 0
IsDiverge Exit = ⊥
IsDiverge (To b) = ⊥
IsDiverge (Turns branches) = Unit {0}

-- branch k has a parcel of more than one unit
pub record HasFloor (out : Out) (k : ℕ) : Type 0 where
  pub inside : k < length (branches_of out)
  pub many : 1 < (slice_index_or (branches_of out) k (0, 0)).1

-- the column is one of the network's program
abbrev pub IsColumn : Net → Column → Type 0
IsColumn net (Bit t s letter) = (t < net.steps) × (s < length net.signals) × IsLetterOf (signal_of net.signals s) letter
IsColumn net (Units t i) = IsPlace net t i
IsColumn net (Room t i) = IsPlace net t i × (has_room net.cells i ≡ true)
IsColumn net (RoomRest t i) = IsPlace net t i × (has_room net.cells i ≡ true)
IsColumn net (Parcels t i) = IsPlace net t i × IsDiverge (cell_of net.cells i).out
IsColumn net (ParcelsRest t i) = IsPlace net t i × IsDiverge (cell_of net.cells i).out
IsColumn net (BranchRoom t i k) = IsPlace net t i × HasFloor (cell_of net.cells i).out k
IsColumn net (BranchRest t i k) = IsPlace net t i × HasFloor (cell_of net.cells i).out k
IsColumn net (Flow t i) = IsPlace net t i
IsColumn net (Switch t i m) = IsPlace net t i × (m < term_count (cell_of net.cells i).out)
