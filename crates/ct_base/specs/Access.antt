-- What the parts of a network are by their numbers, and where the moves out of cells lead.
use Rattle.std.specs.Prelude.{ℕ, List, [], ◌∷◌, map, None, sum_by, slice_index_or}
use Rattle.ct_base.specs.declared.cell.Cell.{Cell}
use Rattle.ct_base.specs.declared.cell.Kind.TheVariants.{Road}
use Rattle.ct_base.specs.declared.cell.Out.{Out}
use Rattle.ct_base.specs.declared.cell.Out.TheVariants.{Exit, To, Turns}
use Rattle.ct_base.specs.declared.signal.Signal.{Signal}
use Rattle.ct_base.specs.declared.signal.Phase.{Phase}

-- what stands for a cell, a phase, a signal or a letter that is not there
abbrev pub no_cell : Cell
no_cell = record { kind = Road; cap = 0; store = 0; wave_p = 0; wave_q = 0; gate = None; out = Exit; initial = 0; demand = [] }

-- what stands for a phase that is not there
abbrev pub no_phase : Phase
no_phase = record { min = 0; max = 0; clear = 0; next = 0 }

-- what stands for a signal that is not there
abbrev pub no_signal : Signal
no_signal = record { start = 0; phases = [] }

-- the cell, the signal and the phase with a number
abbrev pub cell_of : List Cell → ℕ → Cell
cell_of cells i = slice_index_or cells i no_cell

-- the signal with a number
abbrev pub signal_of : List Signal → ℕ → Signal
signal_of signals s = slice_index_or signals s no_signal

-- the phase of a signal with a number
abbrev pub phase_of : Signal → ℕ → Phase
phase_of signal p = slice_index_or signal.phases p no_phase

-- the numbers of the cells that a move leads into
abbrev pub targets : Out → List ℕ
targets Exit = []
targets (To b) = b ∷ []
targets (Turns branches) = map (λ (branch : ℕ × ℕ). branch.0) branches

-- the units of one parcel of a diverge
abbrev pub parcel : List (ℕ × ℕ) → ℕ
parcel branches = sum_by (λ (branch : ℕ × ℕ). branch.1) branches
