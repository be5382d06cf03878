-- The lines of the rows so far are added.
use Rattle.std.proofs.Common.{◌≡◌, [], ◌∷◌, ◌++◌, take}
use Rattle.std.specs.Prelude.{flat_map}
use Rattle.sparse_program.specs.declared.row.Row.{Row}
use Rattle.program_text.specs.ProgramText.{row_line}
use Rattle.program_text.proofs.program.push_rows.Given as goal

abbrev pub invariant-loop-number : goal.invariant-loop-number
invariant-loop-number l = l.text.items ≡ l.fn.text.items ++ flat_map (λ (row : Row). row_line row ++ 10 ∷ []) (take l.number l.program.rows)
