-- The rows of a move are met exactly where its switches hold in natural numbers, and so exactly where its flow is the least of
-- its terms and the one switch that is on stands at the first of the least.
use Rattle.std.proofs.Common.{◌≡◌, inl, inr, ℕ, ◌+◌, ◌-◌, ◌*◌, ◌<◌, ◌≤◌, List, [], ◌∷◌, length, arith, ◌↔◌}
use Rattle.std.specs.Prelude.{ℤ, pos}
use Rattle.std.proofs.lemmas.Bool.{cases_eq}
use Rattle.std.proofs.lemmas.Int.{ints}
use Rattle.listed.specs.Below.{sum_below, table_of}
use Rattle.program_model.specs.Rows.{AllMeet, Meets, Sum, column, minus, sum_at, times, total}
use Rattle.program_model.specs.SwitchRows.{Term, least_rows, lower_row, lower_rows, one_switch_row, upper_row, upper_rows}
use Rattle.program_model.proofs.SumLaws.{AllMeet-append, AllMeet-parts, sum_at-column, sum_at-minus, sum_at-times, sum_at-total_of_table}
use Rattle.program_model.proofs.Switches.{SwitchesHold}

-- terms of which the first has number m come to these numbers, and have these greatest values
abbrev pub AreTerms : {C : Type 0} → (C → ℤ) → (ℕ → ℕ) → (ℕ → ℕ) → ℕ → List (Term C) → Type 0
AreTerms value u most m [] = Unit {0}
AreTerms value u most m (term ∷ terms) = ((sum_at value term.of ≡ pos (u m)) × (term.most ≡ most m)) × AreTerms value u most (m + 1) terms

-- the sum of a lower row
lower_sum : {C : Type 0} (value : C → ℤ) (flow : C) (switch : ℕ → C) (count m : ℕ) (of : Sum C) (u : ℕ) (y : ℕ) (c : ℕ → ℕ) →
    sum_at value of ≡ pos u → value flow ≡ pos y → ((k : ℕ) → k < count → value (switch k) ≡ pos (c k)) →
    Meets value (lower_row flow switch count m of) ↔ (y + sum_below (count - (m + 1)) (λ k. c (m + 1 + k)) ≤ u)
lower_sum value flow switch count m of u y c is flows on =
    let later : sum_at value (total (table_of (count - (m + 1)) (λ k. switch (m + 1 + k)))) ≡ pos (sum_below (count - (m + 1)) (λ k. c (m + 1 + k))) =
    sum_at-total_of_table value (count - (m + 1)) (λ k. switch (m + 1 + k)) (λ k. c (m + 1 + k)) (λ k inside. on (m + 1 + k) (omega (arith, inside))) in
    rw (sum_at-minus value (minus of (column flow)) (total (table_of (count - (m + 1)) (λ k. switch (m + 1 + k)))), sum_at-minus value of (column flow), sum_at-column value flow, is, flows, later)
    ((λ h. omega (arith, ints, h)), (λ h. omega (arith, ints, h)))

-- the sum of an upper row
upper_sum : {C : Type 0} (value : C → ℤ) (flow : C) (switch : C) (term : Term C) (u y c : ℕ) →
    sum_at value term.of ≡ pos u → value flow ≡ pos y → value switch ≡ pos c →
    Meets value (upper_row flow switch term) ↔ (u + term.most * c ≤ y + term.most)
upper_sum value flow switch term u y c is flows on =
    rw (
      sum_at-minus value (minus (column flow) term.of) (times (pos term.most) (column switch)),
      sum_at-minus value (column flow) term.of,
      sum_at-times value (pos term.most) (column switch),
      sum_at-column value switch,
      sum_at-column value flow,
      is,
      flows,
      on,
    )
    ((λ h. omega (arith, ints, h)), (λ h. omega (arith, ints, h)))

-- the lower rows of terms of which the first has number m
lower_rows_hold : {C : Type 0} (value : C → ℤ) (flow : C) (switch : ℕ → C) (count : ℕ) (u most : ℕ → ℕ) (y : ℕ) (c : ℕ → ℕ) →
    value flow ≡ pos y → ((k : ℕ) → k < count → value (switch k) ≡ pos (c k)) →
    (m : ℕ) (terms : List (Term C)) → AreTerms value u most m terms → AllMeet value (lower_rows flow switch count m terms) →
    (i : ℕ) → m ≤ i → i < m + length terms → y + sum_below (count - (i + 1)) (λ k. c (i + 1 + k)) ≤ u i
lower_rows_hold value flow switch count u most y c flows on m [] are met i from below = absurd (omega (arith, from, below))
lower_rows_hold value flow switch count u most y c flows on m (term ∷ terms) are met i from below =
    elim (cases_eq i m) [
      | inl e ↦ rw e ((lower_sum value flow switch count m term.of (u m) y c are.0.0 flows on).0 met.0)
      | inr later ↦ lower_rows_hold value flow switch count u most y c flows on (m + 1) terms are.1 met.1 i (omega (arith, from, later)) (omega (arith, below))
    ]

lower_rows_are_met : {C : Type 0} (value : C → ℤ) (flow : C) (switch : ℕ → C) (count : ℕ) (u most : ℕ → ℕ) (y : ℕ) (c : ℕ → ℕ) →
    value flow ≡ pos y → ((k : ℕ) → k < count → value (switch k) ≡ pos (c k)) →
    (m : ℕ) (terms : List (Term C)) → AreTerms value u most m terms →
    ((i : ℕ) → m ≤ i → i < m + length terms → y + sum_below (count - (i + 1)) (λ k. c (i + 1 + k)) ≤ u i) → AllMeet value (lower_rows flow switch count m terms)
lower_rows_are_met value flow switch count u most y c flows on m [] are hold = tt
lower_rows_are_met value flow switch count u most y c flows on m (term ∷ terms) are hold = (
  (lower_sum value flow switch count m term.of (u m) y c are.0.0 flows on).1 (hold m (omega arith) (omega arith)),
  lower_rows_are_met value flow switch count u most y c flows on (m + 1) terms are.1 (λ i from below. hold i (omega (arith, from)) (omega (arith, below))),
)

-- the upper rows
upper_rows_hold : {C : Type 0} (value : C → ℤ) (flow : C) (switch : ℕ → C) (u most : ℕ → ℕ) (y : ℕ) (c : ℕ → ℕ) →
    value flow ≡ pos y → (m : ℕ) (terms : List (Term C)) → ((k : ℕ) → k < m + length terms → value (switch k) ≡ pos (c k)) → AreTerms value u most m terms → AllMeet value (upper_rows flow switch m terms) →
    (i : ℕ) → m ≤ i → i < m + length terms → u i + most i * c i ≤ y + most i
upper_rows_hold value flow switch u most y c flows m [] on are met i from below = absurd (omega (arith, from, below))
upper_rows_hold value flow switch u most y c flows m (term ∷ terms) on are met i from below =
    elim (cases_eq i m) [
      | inl e ↦ rw (e, ← are.0.1) ((upper_sum value flow (switch m) term (u m) y (c m) are.0.0 flows (on m (omega arith))).0 met.0)
      | inr later ↦ upper_rows_hold value flow switch u most y c flows (m + 1) terms (λ k inside. on k (omega (arith, inside))) are.1 met.1 i (omega (arith, from, later)) (omega (arith, below))
    ]

upper_rows_are_met : {C : Type 0} (value : C → ℤ) (flow : C) (switch : ℕ → C) (u most : ℕ → ℕ) (y : ℕ) (c : ℕ → ℕ) →
    value flow ≡ pos y → (m : ℕ) (terms : List (Term C)) → ((k : ℕ) → k < m + length terms → value (switch k) ≡ pos (c k)) → AreTerms value u most m terms →
    ((i : ℕ) → m ≤ i → i < m + length terms → u i + most i * c i ≤ y + most i) → AllMeet value (upper_rows flow switch m terms)
upper_rows_are_met value flow switch u most y c flows m [] on are hold = tt
upper_rows_are_met value flow switch u most y c flows m (term ∷ terms) on are hold = (
  (upper_sum value flow (switch m) term (u m) y (c m) are.0.0 flows (on m (omega arith))).1 (rw are.0.1 (hold m (omega arith) (omega arith))),
  upper_rows_are_met value flow switch u most y c flows (m + 1) terms (λ k inside. on k (omega (arith, inside))) are.1 (λ i from below. hold i (omega (arith, from)) (omega (arith, below))),
)

-- one switch is on
one_switch_sum : {C : Type 0} (value : C → ℤ) (switch : ℕ → C) (count : ℕ) (c : ℕ → ℕ) → ((k : ℕ) → k < count → value (switch k) ≡ pos (c k)) →
    Meets value (one_switch_row switch count) ↔ (sum_below count c ≡ 1)
one_switch_sum value switch count c on =
    rw (sum_at-total_of_table value count switch c (λ k inside. on k inside)) ((λ h. omega (arith, ints, h)), (λ h. omega (arith, ints, h)))

-- the rows of a move are met exactly where its switches hold
pub switches_hold_below : {C : Type 0} (value : C → ℤ) (flow : C) (terms : List (Term C)) (switch : ℕ → C) (u most : ℕ → ℕ) (y : ℕ) (c : ℕ → ℕ) →
    value flow ≡ pos y → ((k : ℕ) → k < length terms → value (switch k) ≡ pos (c k)) → AreTerms value u most 0 terms →
    AllMeet value (least_rows flow terms switch) ↔ SwitchesHold (length terms) u most y c
unfolding least_rows
switches_hold_below value flow terms switch u most y c flows on are =
    let count : ℕ = length terms in (
      (λ met.
          let parts : AllMeet value (lower_rows flow switch count 0 terms) × AllMeet value (upper_rows flow switch 0 terms) =
          AllMeet-parts value (lower_rows flow switch count 0 terms) (upper_rows flow switch 0 terms) met.1 in
          record {
            one = (one_switch_sum value switch count c on).0 met.0;
            lower = λ m inside. lower_rows_hold value flow switch count u most y c flows on 0 terms are parts.0 m (omega arith) (omega (arith, inside));
            upper = λ m inside. upper_rows_hold value flow switch u most y c flows 0 terms (λ k inside. on k (omega (arith, inside))) are parts.1 m (omega arith) (omega (arith, inside));
          }),
      (λ hold. (
        (one_switch_sum value switch count c on).1 hold.one,
        AllMeet-append value (lower_rows flow switch count 0 terms) (upper_rows flow switch 0 terms)
            (lower_rows_are_met value flow switch count u most y c flows on 0 terms are (λ i from below. hold.lower i (omega (arith, below))))
            (upper_rows_are_met value flow switch u most y c flows 0 terms (λ k inside. on k (omega (arith, inside))) are (λ i from below. hold.upper i (omega (arith, below)))),
      )),
    )

-- the same where each number has a switch
pub switches_hold : {C : Type 0} (value : C → ℤ) (flow : C) (terms : List (Term C)) (switch : ℕ → C) (u most : ℕ → ℕ) (y : ℕ) (c : ℕ → ℕ) →
    value flow ≡ pos y → ((k : ℕ) → value (switch k) ≡ pos (c k)) → AreTerms value u most 0 terms →
    AllMeet value (least_rows flow terms switch) ↔ SwitchesHold (length terms) u most y c
switches_hold value flow terms switch u most y c flows on are = switches_hold_below value flow terms switch u most y c flows (λ k inside. on k) are
