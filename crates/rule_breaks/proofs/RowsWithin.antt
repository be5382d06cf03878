-- The rule rows of a horizon that name only its first steps are those of a horizon of so many steps.
use Rattle.std.proofs.Common.{◌≡◌, inl, inr, ℕ, zero, suc, ◌+◌, ◌-◌, ◌<◌, ◌≤◌, true, false, List, [], ◌∷◌, ◌++◌, length, map, filter, refl, ap, ◌∙◌, sym, append-nil, arith}
use Rattle.std.specs.Prelude.{nat_lt, if◌then◌else◌, All}
use Rattle.std.proofs.lemmas.Bool.{cases_Bool, cases_lt, lt-ltb, le-ltb}
use Rattle.std.proofs.lemmas.List.Elements.{filter-append}
use Rattle.listed.specs.Below.{join_below}
use Rattle.listed.proofs.JoinLaws.{join_below-same, join_below-suc, join_of_none}
use Rattle.ct_base.specs.Access.{no_signal, phase_of, signal_of}
use Rattle.ct_base.specs.Validity.{IsSignal}
use Rattle.ct_base.specs.declared.net.Net.{Net}
use Rattle.ct_base.specs.declared.plan.Letter.{Letter}
use Rattle.ct_base.specs.declared.plan.Letter.TheVariants.{Clear, Green}
use Rattle.ct_base.specs.declared.signal.Signal.{Signal}
use Rattle.program_model.specs.Columns.{Column, letters_of}
use Rattle.program_model.specs.Existence.{IsLetterOf}
use Rattle.program_model.specs.Rows.{SumRow}
use Rattle.program_model.specs.RuleRows.{clear_end_rows, end_row, end_rows, follow_row, follow_rows, one_letter_row, rule_rows, rule_rows_at, stay_row, stay_rows}
use Rattle.program_model.proofs.ColumnLaws.{Each, letters_are}
use Rattle.rule_breaks.specs.Bits.{rule_rows_within}
use Rattle.rule_breaks.specs.Breaks.{names_within}
use Rattle.rule_breaks.proofs.NamedSteps.{end_names, follow_names, one_letter_names, stay_names}

abbrev Rows : Type 0
Rows = List (SumRow Column)

-- the rows that name only steps below a number
abbrev pub rows_naming : ℕ → List (SumRow Column) → List (SumRow Column)
rows_naming steps rows = filter (names_within steps) rows

-- of a join
naming-join_below : (steps n : ℕ) (parts : ℕ → List (SumRow Column)) → rows_naming steps (join_below n parts) ≡ join_below n (λ k. rows_naming steps (parts k))
unfolding join_below
naming-join_below steps zero parts = refl
naming-join_below steps (suc n) parts =
    filter-append (names_within steps) (join_below n parts) (parts n) ∙ ap (λ (rows : List (SumRow Column)). rows ++ rows_naming steps (parts n)) (naming-join_below steps n parts)

-- of one row that is there where its last step is below the horizon
naming_one : (steps horizon u : ℕ) (row : SumRow Column) → steps ≤ horizon → names_within steps row ≡ nat_lt u steps →
    rows_naming steps (if nat_lt u horizon then row ∷ [] else []) ≡ (if nat_lt u steps then row ∷ [] else [])
naming_one steps horizon u row within names =
    elim (cases_lt u steps) [
      | inl below ↦ rw (lt-ltb u horizon (omega (arith, below, within)), names, lt-ltb u steps below) refl
      | inr past ↦
          elim (cases_Bool (nat_lt u horizon)) [
            | inl there ↦ rw (there, names, le-ltb u steps past) refl
            | inr not ↦ rw (not, le-ltb u steps past) refl
          ]
    ]

-- ---- the kinds

-- what may follow
naming_all : (steps : ℕ) (signal : Signal) (s t : ℕ) (letters : List Letter) → Each (IsLetterOf signal) letters →
    rows_naming steps (map (follow_row signal s t) letters) ≡ (if nat_lt (t + 1) steps then map (follow_row signal s t) letters else [])
naming_all steps signal s t [] are = elim (cases_Bool (nat_lt (t + 1) steps)) [ inl below ↦ rw below refl | inr past ↦ rw past refl ]
naming_all steps signal s t (letter ∷ letters) are =
    let rest : rows_naming steps (map (follow_row signal s t) letters) ≡ (if nat_lt (t + 1) steps then map (follow_row signal s t) letters else []) = naming_all steps signal s t letters are.1 in
    let names : names_within steps (follow_row signal s t letter) ≡ nat_lt (t + 1) steps = follow_names steps signal s t letter are.0 in
    elim (cases_Bool (nat_lt (t + 1) steps)) [
      | inl below ↦ rw (names ∙ below, rest, below) refl
      | inr past ↦ rw (names ∙ past, rest, past) refl
    ]

naming_follows : (steps horizon : ℕ) (signal : Signal) (s t : ℕ) → steps ≤ horizon → rows_naming steps (follow_rows signal horizon s t) ≡ follow_rows signal steps s t
naming_follows steps horizon signal s t within =
    elim (cases_Bool (nat_lt (t + 1) horizon)) [
      | inl there ↦ rw there (naming_all steps signal s t (letters_of signal) (letters_are signal))
      | inr not ↦
          elim (cases_lt (t + 1) steps) [
            | inl below ↦ absurd (let e : true ≡ false = sym (lt-ltb (t + 1) horizon (omega (arith, below, within))) ∙ not in cc)
            | inr past ↦ rw (not, le-ltb (t + 1) steps past) refl
          ]
    ]

-- how long letters stay
naming_stays : (steps horizon s t : ℕ) (letter : Letter) (least : ℕ) → steps ≤ horizon → rows_naming steps (stay_rows horizon s t letter least) ≡ stay_rows steps s t letter least
naming_stays steps horizon s t letter least within =
    naming-join_below steps (least - 1) (λ j. if nat_lt (t + (j + 1)) horizon then stay_row s t letter (j + 1) ∷ [] else [])
    ∙ join_below-same (least - 1) _ _ (λ j few. naming_one steps horizon (t + (j + 1)) (stay_row s t letter (j + 1)) within (stay_names steps s t (j + 1) letter (omega arith)))

-- when they end
naming_ends : (steps horizon s t : ℕ) (letter : Letter) (most : ℕ) → steps ≤ horizon → rows_naming steps (end_rows horizon s t letter most) ≡ end_rows steps s t letter most
naming_ends steps horizon s t letter most within = naming_one steps horizon (t + most) (end_row s t letter most) within (end_names steps s t most letter)

naming_clear_ends : (steps horizon s t p clear : ℕ) → steps ≤ horizon → rows_naming steps (clear_end_rows horizon s t p clear) ≡ clear_end_rows steps s t p clear
naming_clear_ends steps horizon s t p zero within = refl
naming_clear_ends steps horizon s t p (suc clear) within = naming_ends steps horizon s t (Clear p) (suc clear) within

-- ---- a step

-- five parts
naming_five : (steps : ℕ) (a b c d e : List (SumRow Column)) →
    rows_naming steps (a ++ b ++ c ++ d ++ e) ≡ rows_naming steps a ++ rows_naming steps b ++ rows_naming steps c ++ rows_naming steps d ++ rows_naming steps e
naming_five steps a b c d e =
    rw (
      filter-append (names_within steps) (a ++ b ++ c ++ d) e,
      filter-append (names_within steps) (a ++ b ++ c) d,
      filter-append (names_within steps) (a ++ b) c,
      filter-append (names_within steps) a b,
    )
    refl

-- the rows of a step but the first
abbrev rest_at : Signal → ℕ → ℕ → ℕ → List (SumRow Column)
rest_at signal steps s t =
    let phases = length signal.phases in
    follow_rows signal steps s t
    ++ join_below phases (λ p. stay_rows steps s t (Green p) (phase_of signal p).min)
    ++ join_below phases (λ p. end_rows steps s t (Green p) (phase_of signal p).max)
    ++ join_below phases (λ p. stay_rows steps s t (Clear p) (phase_of signal p).clear)
    ++ join_below phases (λ p. clear_end_rows steps s t p (phase_of signal p).clear)

naming_rest : (steps horizon : ℕ) (signal : Signal) (s t : ℕ) → steps ≤ horizon → rows_naming steps (rest_at signal horizon s t) ≡ rest_at signal steps s t
naming_rest steps horizon signal s t within =
    let n : ℕ = length signal.phases in
    let green_stays : ℕ → ℕ → List (SumRow Column) = λ to p. stay_rows to s t (Green p) (phase_of signal p).min in
    let green_ends : ℕ → ℕ → List (SumRow Column) = λ to p. end_rows to s t (Green p) (phase_of signal p).max in
    let clear_stays : ℕ → ℕ → List (SumRow Column) = λ to p. stay_rows to s t (Clear p) (phase_of signal p).clear in
    let clear_ends : ℕ → ℕ → List (SumRow Column) = λ to p. clear_end_rows to s t p (phase_of signal p).clear in
    naming_five steps (follow_rows signal horizon s t) (join_below n (green_stays horizon)) (join_below n (green_ends horizon)) (join_below n (clear_stays horizon)) (join_below n (clear_ends horizon))
    ∙ rw (
      naming_follows steps horizon signal s t within,
      naming-join_below steps n (green_stays horizon) ∙ join_below-same n _ (green_stays steps) (λ p few. naming_stays steps horizon s t (Green p) (phase_of signal p).min within),
      naming-join_below steps n (green_ends horizon) ∙ join_below-same n _ (green_ends steps) (λ p few. naming_ends steps horizon s t (Green p) (phase_of signal p).max within),
      naming-join_below steps n (clear_stays horizon) ∙ join_below-same n _ (clear_stays steps) (λ p few. naming_stays steps horizon s t (Clear p) (phase_of signal p).clear within),
      naming-join_below steps n (clear_ends horizon) ∙ join_below-same n _ (clear_ends steps) (λ p few. naming_clear_ends steps horizon s t p (phase_of signal p).clear within),
    )
    refl

-- a step below the horizon of so many steps
pub naming_step : (steps horizon : ℕ) (signal : Signal) (s t : ℕ) → 1 ≤ length signal.phases → steps ≤ horizon → t < steps → rows_naming steps (rule_rows_at signal horizon s t) ≡ rule_rows_at signal steps s t
unfolding rule_rows_at
naming_step steps horizon signal s t some within before =
    let names : names_within steps (one_letter_row signal s t) ≡ true = one_letter_names steps signal s t some ∙ lt-ltb t steps before in
    rw names (ap (λ (rows : List (SumRow Column)). one_letter_row signal s t ∷ rows) (naming_rest steps horizon signal s t within))

-- ---- a step past them

stays_none : (steps s t : ℕ) (letter : Letter) (least : ℕ) → steps ≤ t → stay_rows steps s t letter least ≡ []
stays_none steps s t letter least past =
    join_of_none (least - 1) (λ j. if nat_lt (t + (j + 1)) steps then stay_row s t letter (j + 1) ∷ [] else []) (λ j few. rw (le-ltb (t + (j + 1)) steps (omega (arith, past))) refl)

ends_none : (steps s t : ℕ) (letter : Letter) (most : ℕ) → steps ≤ t → end_rows steps s t letter most ≡ []
ends_none steps s t letter most past = rw (le-ltb (t + most) steps (omega (arith, past))) refl

clear_ends_none : (steps s t p clear : ℕ) → steps ≤ t → clear_end_rows steps s t p clear ≡ []
clear_ends_none steps s t p zero past = refl
clear_ends_none steps s t p (suc clear) past = ends_none steps s t (Clear p) (suc clear) past

rest_none : (steps : ℕ) (signal : Signal) (s t : ℕ) → steps ≤ t → rest_at signal steps s t ≡ []
rest_none steps signal s t past =
    let n : ℕ = length signal.phases in
    rw (
      le-ltb (t + 1) steps (omega (arith, past)),
      join_of_none n (λ p. stay_rows steps s t (Green p) (phase_of signal p).min) (λ p few. stays_none steps s t (Green p) (phase_of signal p).min past),
      join_of_none n (λ p. end_rows steps s t (Green p) (phase_of signal p).max) (λ p few. ends_none steps s t (Green p) (phase_of signal p).max past),
      join_of_none n (λ p. stay_rows steps s t (Clear p) (phase_of signal p).clear) (λ p few. stays_none steps s t (Clear p) (phase_of signal p).clear past),
      join_of_none n (λ p. clear_end_rows steps s t p (phase_of signal p).clear) (λ p few. clear_ends_none steps s t p (phase_of signal p).clear past),
    )
    refl

pub naming_past : (steps horizon : ℕ) (signal : Signal) (s t : ℕ) → 1 ≤ length signal.phases → steps ≤ horizon → steps ≤ t → rows_naming steps (rule_rows_at signal horizon s t) ≡ []
unfolding rule_rows_at
naming_past steps horizon signal s t some within past =
    let names : names_within steps (one_letter_row signal s t) ≡ false = one_letter_names steps signal s t some ∙ le-ltb t steps past in
    rw names (naming_rest steps horizon signal s t within ∙ rest_none steps signal s t past)

-- ---- all steps and signals

-- of a longer horizon the first steps are left
pub naming_steps : (steps more : ℕ) (parts : ℕ → List (SumRow Column)) → ((t : ℕ) → steps ≤ t → parts t ≡ []) → join_below (steps + more) parts ≡ join_below steps parts
naming_steps steps zero parts none = let sum : steps + 0 ≡ steps = omega arith in ap (λ n. join_below n parts) sum
naming_steps steps (suc more) parts none =
    let sum : steps + suc more ≡ steps + more + 1 = omega arith in
    rw (sum, join_below-suc (steps + more) parts, none (steps + more) (omega arith), append-nil (join_below (steps + more) parts)) (naming_steps steps more parts none)

naming_signal : (steps horizon : ℕ) (signal : Signal) (s : ℕ) → 1 ≤ length signal.phases → steps ≤ horizon →
    rows_naming steps (join_below horizon (rule_rows_at signal horizon s)) ≡ join_below steps (rule_rows_at signal steps s)
naming_signal steps horizon signal s some within =
    let parts : ℕ → List (SumRow Column) = λ t. rows_naming steps (rule_rows_at signal horizon s t) in
    let sum : horizon ≡ steps + (horizon - steps) = omega (arith, within) in
    naming-join_below steps horizon (rule_rows_at signal horizon s)
    ∙ ap (λ n. join_below n parts) sum
    ∙ naming_steps steps (horizon - steps) parts (λ t past. naming_past steps horizon signal s t some within past)
    ∙ join_below-same steps parts (rule_rows_at signal steps s) (λ t before. naming_step steps horizon signal s t some within before)

-- the rule rows of the network
pub naming_rules : (net : Net) (steps : ℕ) → All IsSignal net.signals → steps ≤ net.steps → rows_naming steps (rule_rows net) ≡ rule_rows_within net steps
unfolding rule_rows
naming_rules net steps valid within =
    naming-join_below steps (length net.signals) (λ s. join_below net.steps (rule_rows_at (signal_of net.signals s) net.steps s))
    ∙ join_below-same (length net.signals) _ _
    (λ s inside. naming_signal steps net.steps (signal_of net.signals s) s (omega (arith, (valid s no_signal inside).phases.0)) within)
