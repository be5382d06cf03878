-- The rule rows of a signal at a step by their kinds, and those of a kind phase by phase.
use Rattle.std.specs.Prelude.{ℕ, ◌+◌, nat_lt, if◌then◌else◌, Bool, true, List, [], ◌∷◌, length, map, slice_index_or, Option, Some, None}
use Rattle.listed.specs.Below.{join_below}
use Rattle.ct_base.specs.Access.{phase_of}
use Rattle.ct_base.specs.declared.plan.Letter.{Letter}
use Rattle.ct_base.specs.declared.plan.Letter.TheVariants.{Clear, Green}
use Rattle.ct_base.specs.declared.signal.Signal.{Signal}
use Rattle.program_model.specs.Columns.{Column, letters_by}
use Rattle.program_model.specs.Rows.{SumRow}
use Rattle.program_model.specs.RuleRows.{clear_end_rows, end_rows, follow_row, may_follow, stay_rows}
use Rattle.rule_breaks.specs.declared.walk.Kind.{Kind}
use Rattle.rule_breaks.specs.declared.walk.Kind.TheVariants.{Follow, GreenStays, GreenEnds, ClearingStays, ClearingEnds}

-- the rows of a kind that phase p brings, of signal s at step t
abbrev pub rows_of_phase : Signal → ℕ → ℕ → ℕ → Kind → ℕ → List (SumRow Column)
rows_of_phase signal steps s t Follow p = if nat_lt (t + 1) steps then map (follow_row signal s t) (letters_by p (phase_of signal p).clear) else []
rows_of_phase signal steps s t GreenStays p = stay_rows steps s t (Green p) (phase_of signal p).min
rows_of_phase signal steps s t GreenEnds p = end_rows steps s t (Green p) (phase_of signal p).max
rows_of_phase signal steps s t ClearingStays p = stay_rows steps s t (Clear p) (phase_of signal p).clear
rows_of_phase signal steps s t ClearingEnds p = clear_end_rows steps s t p (phase_of signal p).clear

-- the rows of a kind, phase by phase
abbrev pub rows_of_kind : Signal → ℕ → ℕ → ℕ → Kind → List (SumRow Column)
rows_of_kind signal steps s t kind = join_below (length signal.phases) (rows_of_phase signal steps s t kind)

-- the kinds in their order
abbrev pub kinds : List Kind
kinds = Follow ∷ GreenStays ∷ GreenEnds ∷ ClearingStays ∷ ClearingEnds ∷ []

-- the rows of the kind with a number in that order
abbrev pub rows_at : Signal → ℕ → ℕ → ℕ → ℕ → List (SumRow Column)
rows_at signal steps s t k = rows_of_kind signal steps s t (slice_index_or kinds k Follow)

-- the letter may stand in the step after another, or any letter may where none is asked for
abbrev pub may_come : Signal → Option Letter → Letter → Bool
may_come signal None letter = true
may_come signal (Some before) letter = may_follow signal before letter
