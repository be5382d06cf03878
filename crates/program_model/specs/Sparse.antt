-- A row of what columns count as the program holds it: by the numbers of its columns, which rise (docs/program.md, "Rows").
use Rattle.std.specs.Prelude.{ℕ, ℤ, List, map}
use Rattle.sparse_program.specs.Program.{row_from}
use Rattle.sparse_program.specs.Terms.{rising}
use Rattle.sparse_program.specs.declared.row.Row.{Row}
use Rattle.program_model.specs.Rows.{SumRow}

-- the terms by the numbers of their columns
abbrev pub by_number : {C : Type 0} → (C → ℕ) → List (C × ℤ) → List (ℕ × ℤ)
by_number {C} number terms = map (λ (term : C × ℤ). (number term.0, term.1)) terms

-- the row with its constant on the right side, and its terms by rising column: those of one column added up, those of 0 left out
abbrev pub sparse : {C : Type 0} → (C → ℕ) → SumRow C → Row
sparse number row = row_from row.equal row.rhs (record { constant = row.sum.constant; terms = rising (by_number number row.sum.terms) })
