-- The lines of the columns so far are added.
use Rattle.std.proofs.Common.{◌≡◌, [], ◌∷◌, ◌++◌, take}
use Rattle.std.specs.Prelude.{flat_map}
use Rattle.sparse_program.specs.declared.column.Col.{Col}
use Rattle.program_text.specs.ProgramText.{column_line}
use Rattle.program_text.proofs.program.push_columns.Given as goal

abbrev pub invariant-loop-number : goal.invariant-loop-number
invariant-loop-number l = l.text.items ≡ l.fn.text.items ++ flat_map (λ (col : Col). column_line col ++ 10 ∷ []) (take l.number l.program.columns)
