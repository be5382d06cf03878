-- The text of a program in whole numbers (docs/program.md, "Texts").
use Rattle.std.specs.Prelude.{ℕ, Bool, true, false, ℤ, List, [], ◌∷◌, ◌++◌, length, map, codes}
use Rattle.std.specs.Fmt.{decimal, signed_decimal}
use Rattle.texts.specs.Lines.{line_of_words, text_of_lines}
use Rattle.sparse_program.specs.Program.{Parts}
use Rattle.sparse_program.specs.declared.column.Col.{Col}
use Rattle.sparse_program.specs.declared.row.Row.{Row}

-- a column: its low, its high and its cost
abbrev pub column_line : Col → List ℕ
column_line col = line_of_words (signed_decimal col.low ∷ signed_decimal col.high ∷ signed_decimal col.cost ∷ [])

-- a term: its column and its coefficient
abbrev pub term_word : ℕ × ℤ → List ℕ
term_word term = decimal term.0 ++ codes ":" ++ signed_decimal term.1

-- whether a row's sum is equal to its right side, or at least that
abbrev pub relation_word : Bool → List ℕ
relation_word true = codes "eq"
relation_word false = codes "ge"

-- a row: how its sum compares, its right side, and its terms
abbrev pub row_line : Row → List ℕ
row_line row = line_of_words (relation_word row.equal ∷ signed_decimal row.rhs ∷ map term_word row.terms)

-- how many columns there are, and how many of them, from the first on, are those of the plan
abbrev pub columns_line : Parts → List ℕ
columns_line program = line_of_words (codes "columns" ∷ decimal (length program.columns) ∷ decimal program.plan_cols ∷ [])

-- how many rows there are
abbrev pub rows_line : Parts → List ℕ
rows_line program = line_of_words (codes "rows" ∷ decimal (length program.rows) ∷ [])

-- all lines of the text
abbrev pub program_lines : Parts → List (List ℕ)
program_lines program =
    codes "ctm-program 1" ∷ columns_line program ∷ (map column_line program.columns ++ rows_line program ∷ (map row_line program.rows ++ codes "end" ∷ []))

-- the text of a program
unfoldable pub program_text : Parts → List ℕ
program_text program = text_of_lines (program_lines program)
