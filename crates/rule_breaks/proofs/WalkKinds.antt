-- A walk over the rows of a step, kind by kind.
use Rattle.std.proofs.Common.{◌≡◌, inl, inr, ℕ, zero, suc, ◌+◌, List, [], ◌∷◌, ◌++◌, length, map, refl, ap, ◌∙◌, sym}
use Rattle.std.specs.Prelude.{ℤ, nat_lt}
use Rattle.std.proofs.lemmas.Bool.{cases_Bool}
use Rattle.std.proofs.lemmas.List.{map-append}
use Rattle.listed.specs.Below.{join_below}
use Rattle.listed.proofs.JoinLaws.{join_below-same, join_of_none}
use Rattle.ct_base.specs.Access.{phase_of}
use Rattle.ct_base.specs.declared.plan.Letter.{Letter}
use Rattle.ct_base.specs.declared.signal.Signal.{Signal}
use Rattle.program_model.specs.Columns.{Column, letters_by, letters_of}
use Rattle.program_model.specs.Rows.{SumRow}
use Rattle.program_model.specs.RuleRows.{follow_row, follow_rows, one_letter_row, rule_rows_at}
use Rattle.rule_breaks.specs.declared.walk.Kind.TheVariants.{Follow}
use Rattle.rule_breaks.specs.inner.Kinds.{rows_at, rows_of_kind, rows_of_phase}
use Rattle.rule_breaks.specs.inner.Walk.{after, walk}
use Rattle.rule_breaks.proofs.WalkLaws.{walk-append}

-- what is made of each item of a join
map-join_below : {X Y : Type 0} (f : X → Y) (n : ℕ) (parts : ℕ → List X) → map f (join_below n parts) ≡ join_below n (λ k. map f (parts k))
unfolding join_below
map-join_below f zero parts = refl
map-join_below f (suc n) parts = map-append f (join_below n parts) (parts n) ∙ ap (λ list. list ++ map f (parts n)) (map-join_below f n parts)

-- what may follow, phase by phase
follow_kind : (signal : Signal) (steps s t : ℕ) → rows_of_kind signal steps s t Follow ≡ follow_rows signal steps s t
unfolding letters_of
follow_kind signal steps s t =
    let row : Letter → SumRow Column = follow_row signal s t in
    let letters : ℕ → List Letter = λ p. letters_by p (phase_of signal p).clear in
    elim (cases_Bool (nat_lt (t + 1) steps)) [
      | inl below ↦
          join_below-same (length signal.phases) (rows_of_phase signal steps s t Follow) (λ p. map row (letters p)) (λ p few. rw below refl)
          ∙ sym (map-join_below row (length signal.phases) letters) ∙ (rw below refl)
      | inr past ↦ join_of_none (length signal.phases) (rows_of_phase signal steps s t Follow) (λ p few. rw past refl) ∙ (rw past refl)
    ]

-- the rows of a step: the one of its letters, and then those of each kind
rows_of_step : (signal : Signal) (steps s t : ℕ) → rule_rows_at signal steps s t ≡ one_letter_row signal s t ∷ join_below 5 (rows_at signal steps s t)
unfolding rule_rows_at join_below
rows_of_step signal steps s t = rw (follow_kind signal steps s t) refl

pub walk_step : (value : Column → ℤ) (within number : ℕ) (signal : Signal) (steps s t : ℕ) →
    walk value within number (rule_rows_at signal steps s t) ≡ after (walk value within number (one_letter_row signal s t ∷ [])) (λ next. walk value within next (join_below 5 (rows_at signal steps s t)))
walk_step value within number signal steps s t =
    ap (walk value within number) (rows_of_step signal steps s t) ∙ walk-append value within number (one_letter_row signal s t ∷ []) (join_below 5 (rows_at signal steps s t))
