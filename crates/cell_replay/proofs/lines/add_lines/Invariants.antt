use Rattle.std.proofs.Common.{◌≡◌, ◌++◌}
use Rattle.listed.specs.Below.{table_of}
use Rattle.cell_replay.specs.inner.Moves.{line_of}
use Rattle.cell_replay.proofs.lines.add_lines.Given as goal

abbrev pub invariant-loop-number : goal.invariant-loop-number
invariant-loop-number l = l.lines.items ≡ l.initial.lines.items ++ table_of l.number (line_of l.step l.units l.outflows)
