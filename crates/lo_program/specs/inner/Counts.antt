-- How many rows there are, by their kinds.
use Rattle.std.specs.Prelude.{ℕ, ◌+◌, ◌-◌, ◌*◌, min, nat_lt, if◌then◌else◌, List, [], length}
use Rattle.listed.specs.Below.{sum_below}
use Rattle.ct_base.specs.Access.{cell_of, phase_of}
use Rattle.ct_base.specs.declared.cell.Cell.{Cell}
use Rattle.ct_base.specs.declared.signal.Phase.{Phase}
use Rattle.ct_base.specs.declared.signal.Signal.{Signal}
use Rattle.program_model.specs.Columns.{has_room, letters_of, term_count}
use Rattle.program_model.specs.FlowRows.{split_rows}

-- those of a letter that stays for at least so many steps
abbrev pub stays : ℕ → ℕ → ℕ → ℕ
stays steps t least = min (least - 1) (steps - (t + 1))

-- that of a letter that ends after at most so many steps
abbrev pub ends : ℕ → ℕ → ℕ → ℕ
ends steps t most = if nat_lt (t + most) steps then 1 else 0

-- those of what may follow each letter
abbrev pub follows : Signal → ℕ → ℕ → ℕ
follows signal steps t = if nat_lt (t + 1) steps then length (letters_of signal) else 0

-- those of a phase
abbrev pub phase_rows : Phase → ℕ → ℕ → ℕ
phase_rows phase steps t =
    stays steps t phase.min + ends steps t phase.max + stays steps t phase.clear + (if nat_lt 0 phase.clear then ends steps t phase.clear else 0)

-- those of a signal at a step
abbrev pub step_rows : Signal → ℕ → ℕ → ℕ
step_rows signal steps t = 1 + follows signal steps t + sum_below (length signal.phases) (λ p. phase_rows (phase_of signal p) steps t)

-- those of cell i at a step, without what it holds in the next: of its room, its floors and its move
abbrev pub moving_rows : List Cell → ℕ → ℕ
moving_rows cells i = (if has_room cells i then 1 else 0) + length (split_rows [] 0 0 (cell_of cells i).out) + 1 + 2 * term_count (cell_of cells i).out

-- that of what a cell holds in the next step, where there is one
abbrev pub next_row : ℕ → ℕ → ℕ
next_row steps t = if nat_lt (t + 1) steps then 1 else 0
