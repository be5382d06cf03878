-- The rows of a letter that stays, as far as the horizon lets it, and a walk over those that look past the steps.
use Rattle.std.proofs.Common.{◌≡◌, inl, inr, ℕ, zero, suc, ◌+◌, ◌-◌, ◌^◌, ◌≤◌, false, List, [], ◌∷◌, refl, ap, ◌∙◌, sym, arith}
use Rattle.std.specs.Prelude.{ℤ, nat_lt, if◌then◌else◌, min, Ok}
use Rattle.std.proofs.lemmas.Bool.{cases_lt, lt-ltb, le-ltb}
use Rattle.listed.specs.Below.{join_below}
use Rattle.listed.proofs.JoinLaws.{join_below-same, join_below-suc}
use Rattle.ct_base.specs.declared.plan.Letter.{Letter}
use Rattle.program_model.specs.Columns.{Column}
use Rattle.program_model.specs.Rows.{SumRow}
use Rattle.program_model.specs.RuleRows.{stay_row, stay_rows}
use Rattle.rule_breaks.specs.Breaks.{names_within}
use Rattle.rule_breaks.specs.inner.Walk.{after, next_number, walk}
use Rattle.rule_breaks.proofs.NamedSteps.{stay_names}
use Rattle.rule_breaks.proofs.RowsWithin.{naming_steps}
use Rattle.rule_breaks.proofs.WalkLaws.{walk-append, walk_past}

-- the row for each step on which the letter stays
abbrev pub rows_of_stay : ℕ → ℕ → Letter → ℕ → List (SumRow Column)
rows_of_stay s t letter j = stay_row s t letter (j + 1) ∷ []

-- a row for each of them that is below the horizon
pub stays_are : (steps s t least : ℕ) (letter : Letter) → stay_rows steps s t letter least ≡ join_below (min (least - 1) (steps - (t + 1))) (rows_of_stay s t letter)
stays_are steps s t least letter =
    let rows : ℕ → List (SumRow Column) = λ j. if nat_lt (t + (j + 1)) steps then stay_row s t letter (j + 1) ∷ [] else [] in
    let room : ℕ = steps - (t + 1) in
    elim (cases_lt (least - 1) (room + 1)) [
      | inl few ↦
          let least_is : min (least - 1) room ≡ least - 1 = omega (arith, few) in
          join_below-same (least - 1) rows (rows_of_stay s t letter) (λ j inside. rw (lt-ltb (t + (j + 1)) steps (omega (arith, few, inside))) refl)
          ∙ ap (λ n. join_below n (rows_of_stay s t letter)) (sym least_is)
      | inr many ↦
          let room_is : min (least - 1) room ≡ room = omega (arith, many) in
          let sum : least - 1 ≡ room + (least - 1 - room) = omega (arith, many) in
          ap (λ n. join_below n rows) sum
          ∙ naming_steps room (least - 1 - room) rows (λ j past. rw (le-ltb (t + (j + 1)) steps (omega (arith, past))) refl)
          ∙ join_below-same room rows (rows_of_stay s t letter) (λ j inside. rw (lt-ltb (t + (j + 1)) steps (omega (arith, inside))) refl)
          ∙ ap (λ n. join_below n (rows_of_stay s t letter)) (sym room_is)
    ]

-- rows that look past the steps are counted
walk_skips : (value : Column → ℤ) (steps start now within more s t : ℕ) (letter : Letter) → steps ≤ t + (within + 1) → now ≤ 2 ^ 32 - 1 → walk value steps start (join_below within (rows_of_stay s t letter)) ≡ Ok now →
    walk value steps start (join_below (within + more) (rows_of_stay s t letter)) ≡ Ok (min (now + more) (2 ^ 32 - 1))
walk_skips value steps start now within zero s t letter past small before =
    let none : within + 0 ≡ within = omega arith in
    let still : min (now + 0) (2 ^ 32 - 1) ≡ now = omega (arith, small) in
    rw (none, still) before
walk_skips value steps start now within (suc more) s t letter past small before =
    let sum : within + suc more ≡ within + more + 1 = omega arith in
    let last : SumRow Column = stay_row s t letter (within + more + 1) in
    let names : names_within steps last ≡ false = stay_names steps s t (within + more + 1) letter (omega arith) ∙ le-ltb (t + (within + more + 1)) steps (omega (arith, past)) in
    let next : next_number (min (now + more) (2 ^ 32 - 1)) ≡ min (now + suc more) (2 ^ 32 - 1) = omega arith in
    ap (λ n. walk value steps start (join_below n (rows_of_stay s t letter))) sum
    ∙ ap (walk value steps start) (join_below-suc (within + more) (rows_of_stay s t letter))
    ∙ walk-append value steps start (join_below (within + more) (rows_of_stay s t letter)) (last ∷ [])
    ∙ ap (λ result. after result (λ n. walk value steps n (last ∷ []))) (walk_skips value steps start now within more s t letter past small before)
    ∙ sym (walk_past value steps (min (now + more) (2 ^ 32 - 1)) last names)
    ∙ ap (λ n. Ok n) next

-- all of them, where those within the steps were passed
pub walk_stays : (value : Column → ℤ) (steps start now within rows s t : ℕ) (letter : Letter) → within ≡ min rows (steps - (t + 1)) → now ≤ 2 ^ 32 - 1 →
    walk value steps start (join_below within (rows_of_stay s t letter)) ≡ Ok now → walk value steps start (join_below rows (rows_of_stay s t letter)) ≡ Ok (min (now + (rows - within)) (2 ^ 32 - 1))
walk_stays value steps start now within rows s t letter is small before =
    let sum : rows ≡ within + (rows - within) = omega (arith, is) in
    elim (cases_lt within rows) [
      | inl some ↦
          ap (λ n. walk value steps start (join_below n (rows_of_stay s t letter))) sum
          ∙ walk_skips value steps start now within (rows - within) s t letter (omega (arith, is, some)) small before
      | inr all ↦
          let same : rows ≡ within = omega (arith, is, all) in
          let still : min (now + (rows - within)) (2 ^ 32 - 1) ≡ now = omega (arith, small, same) in
          ap (λ n. walk value steps start (join_below n (rows_of_stay s t letter))) same ∙ before ∙ ap (λ n. Ok n) (sym still)
    ]
