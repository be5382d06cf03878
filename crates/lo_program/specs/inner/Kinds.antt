-- The rule rows of a signal at a step by their kinds.
use Rattle.std.specs.Prelude.{ℕ, List, [], ◌∷◌, length, slice_index_or}
use Rattle.listed.specs.Below.{join_below}
use Rattle.ct_base.specs.Access.{phase_of}
use Rattle.ct_base.specs.declared.plan.Letter.TheVariants.{Clear, Green}
use Rattle.ct_base.specs.declared.signal.Signal.{Signal}
use Rattle.lo_program.specs.declared.rules.Kind.{Kind}
use Rattle.lo_program.specs.declared.rules.Kind.TheVariants.{OneLetter, Follow, GreenStays, GreenEnds, ClearingStays, ClearingEnds}
use Rattle.program_model.specs.Columns.{Column}
use Rattle.program_model.specs.Rows.{SumRow}
use Rattle.program_model.specs.RuleRows.{clear_end_rows, end_rows, follow_rows, one_letter_row, stay_rows}

-- the rows of a kind, of signal s at step t
abbrev pub rows_of_kind : Signal → ℕ → ℕ → ℕ → Kind → List (SumRow Column)
rows_of_kind signal steps s t OneLetter = one_letter_row signal s t ∷ []
rows_of_kind signal steps s t Follow = follow_rows signal steps s t
rows_of_kind signal steps s t GreenStays = join_below (length signal.phases) (λ p. stay_rows steps s t (Green p) (phase_of signal p).min)
rows_of_kind signal steps s t GreenEnds = join_below (length signal.phases) (λ p. end_rows steps s t (Green p) (phase_of signal p).max)
rows_of_kind signal steps s t ClearingStays = join_below (length signal.phases) (λ p. stay_rows steps s t (Clear p) (phase_of signal p).clear)
rows_of_kind signal steps s t ClearingEnds = join_below (length signal.phases) (λ p. clear_end_rows steps s t p (phase_of signal p).clear)

-- the kinds in their order
abbrev pub kinds : List Kind
kinds = OneLetter ∷ Follow ∷ GreenStays ∷ GreenEnds ∷ ClearingStays ∷ ClearingEnds ∷ []

-- the rows of the kind with a number in that order
abbrev pub rows_at : Signal → ℕ → ℕ → ℕ → ℕ → List (SumRow Column)
rows_at signal steps s t k = rows_of_kind signal steps s t (slice_index_or kinds k OneLetter)
