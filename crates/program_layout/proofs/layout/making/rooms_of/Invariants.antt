use Rattle.std.proofs.Common.{◌≡◌}
use Rattle.listed.specs.Below.{table_of}
use Rattle.program_model.specs.Columns.{has_room}
use Rattle.program_layout.proofs.layout.making.rooms_of.Given as goal

abbrev pub invariant-loop-i : goal.invariant-loop-i
invariant-loop-i l = l.rooms ≡ table_of l.i (has_room l.cells)
