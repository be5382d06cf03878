use Rattle.std.proofs.Common.{◌≡◌, [], length}
use Rattle.program_tests.proofs.moves_and_floors.columns.Given as goal

abbrev pub invariant-loop-column : goal.invariant-loop-column
invariant-loop-column l = record { columns : length l.builder.columns ≡ l._column; rows : l.builder.rows ≡ [] }
