-- The table of a replay (docs/traffic.md, "The trace"): its lines go step by step, and in a step cell by cell.
use Rattle.std.specs.Prelude.{ℕ, zero, suc, List, [], ◌++◌, length, slice_index}
use Rattle.listed.specs.Below.{table_of}
use Rattle.ct_base.specs.declared.cell.Cell.{Cell}
use Rattle.ct_base.specs.declared.plan.Letter.{Letter}
use Rattle.traffic_model.specs.Delay.{cell_delay}
use Rattle.traffic_model.specs.Flow.{outflow}
use Rattle.traffic_model.specs.Occupancy.{occupancies}
use Rattle.cell_replay.specs.declared.lines.Line.{Line}

-- the line of cell i in step t, from what the cells hold as the step begins
abbrev pub line_from : List Cell → List Letter → ℕ → List ℕ → ℕ → Line
line_from cells letters t units i =
    record { step = t; cell = i; units = slice_index units i; out = outflow cells letters units i; delay = cell_delay cells letters units i }

-- the lines of step t
unfoldable pub lines_at : List Cell → (ℕ → List Letter) → ℕ → List Line
lines_at cells letters t = table_of (length cells) (line_from cells (letters t) t (occupancies cells letters t))

-- the lines of the first k steps
unfoldable pub trace_of : List Cell → (ℕ → List Letter) → ℕ → List Line
trace_of cells letters zero = []
trace_of cells letters (suc t) = trace_of cells letters t ++ lines_at cells letters t
