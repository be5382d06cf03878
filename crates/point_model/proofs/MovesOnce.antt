-- The rows of a move leave its flow and its switches one number each, where each of its terms has one.
use Rattle.std.proofs.Common.{◌≡◌, ℕ, zero, suc, ◌+◌, ◌-◌, ◌<◌, List, [], ◌∷◌, length, get_or, refl, ap, ◌∙◌, sym, arith}
use Rattle.std.specs.Prelude.{◌==◌, ℤ, pos, ◌≤ℤ◌, unsigned_abs}
use Rattle.std.proofs.lemmas.Int.{ints}
use Rattle.listed.specs.Below.{sum_below, table_of}
use Rattle.program_model.specs.Rows.{AllMeet, Meets, Sum, column, minus, number, sum_at, total}
use Rattle.program_model.specs.SwitchRows.{Term, least_rows, lower_row, lower_rows, upper_rows}
use Rattle.program_model.specs.Values.{one_where}
use Rattle.program_model.proofs.ColumnLaws.{Each}
use Rattle.program_model.proofs.FirstLeast.{IsFirstLeast, first_least-only}
use Rattle.program_model.proofs.MoveRows.{AreTerms, switches_hold_below}
use Rattle.program_model.proofs.SumLaws.{AllMeet-parts, sum_at-column, sum_at-minus, sum_at-total_of_table}
use Rattle.program_model.proofs.Switches.{IsOnlyOn, SwitchesHold, first_least_from_switches, only_on-test}
use Rattle.point_model.proofs.SameSums.{Same}

-- a flow and switches as the bounds of their columns leave them
pub record AreMoves {C : Type 0} (value : C → ℤ) (flow : C) (switch : ℕ → C) (count : ℕ) : Type 0 where
  pub not_negative : pos 0 ≤ℤ value flow
  pub low : (k : ℕ) → k < count → pos 0 ≤ℤ value (switch k)
  pub high : (k : ℕ) → k < count → value (switch k) ≤ℤ pos 1

-- what stands for a term that is not there
abbrev no_term : {C : Type 0} → Term C
no_term = record { of = number 0; most = 0 }

-- what a term comes to
abbrev term_at : {C : Type 0} → (C → ℤ) → List (Term C) → ℕ → ℕ
term_at value terms m = unsigned_abs (sum_at value (get_or terms m no_term).of)

abbrev most_at : {C : Type 0} → List (Term C) → ℕ → ℕ
most_at terms m = (get_or terms m no_term).most

-- a term is not negative, since its lower row is met
lower_term : {C : Type 0} (value : C → ℤ) (flow : C) (switch : ℕ → C) (count m : ℕ) (of : Sum C) → AreMoves value flow switch count → Meets value (lower_row flow switch count m of) →
    pos 0 ≤ℤ sum_at value of
lower_term value flow switch count m of moves met =
    let c : ℕ → ℕ = λ k. unsigned_abs (value (switch (m + 1 + k))) in
    let later : sum_at value (total (table_of (count - (m + 1)) (λ k. switch (m + 1 + k)))) ≡ pos (sum_below (count - (m + 1)) c) =
    sum_at-total_of_table value (count - (m + 1)) (λ k. switch (m + 1 + k)) c (λ k inside.
    let low : pos 0 ≤ℤ value (switch (m + 1 + k)) = moves.low (m + 1 + k) (omega (arith, inside)) in omega (arith, ints, low)) in
    omega (
      arith,
      ints,
      met,
      sum_at-minus value (minus of (column flow)) (total (table_of (count - (m + 1)) (λ k. switch (m + 1 + k)))),
      sum_at-minus value of (column flow),
      sum_at-column value flow,
      later,
      moves.not_negative,
    )

-- the terms from number m on
terms_are : {C : Type 0} (value : C → ℤ) (flow : C) (switch : ℕ → C) (count : ℕ) (u most : ℕ → ℕ) (m : ℕ) (terms : List (Term C)) → AreMoves value flow switch count →
    AllMeet value (lower_rows flow switch count m terms) → ((k : ℕ) → k < length terms → u (m + k) ≡ term_at value terms k) → ((k : ℕ) → k < length terms → most (m + k) ≡ most_at terms k) → AreTerms value u most m terms
terms_are value flow switch count u most m [] moves met us mosts = tt
terms_are value flow switch count u most m (term ∷ terms) moves met us mosts =
    let at : m + 0 ≡ m = omega arith in
    let some : pos 0 ≤ℤ sum_at value term.of = lower_term value flow switch count m term.of moves met.0 in
    let here : u m ≡ unsigned_abs (sum_at value term.of) = ap u (sym at) ∙ us 0 (omega arith) in
    let most_here : most m ≡ term.most = ap most (sym at) ∙ mosts 0 (omega arith) in (
      (omega (arith, ints, some, here), sym most_here),
      terms_are value flow switch count u most (m + 1) terms moves met.1
          (λ k inside. let next : m + 1 + k ≡ m + suc k = omega arith in ap u next ∙ us (suc k) (omega (arith, inside)))
          (λ k inside. let next : m + 1 + k ≡ m + suc k = omega arith in ap most next ∙ mosts (suc k) (omega (arith, inside))),
    )

-- the same numbers
terms_same : {C : Type 0} (value other : C → ℤ) (terms : List (Term C)) (k : ℕ) → Each (λ (term : Term C). Same value other term.of) terms → term_at other terms k ≡ term_at value terms k
terms_same value other [] k each = refl
terms_same value other (term ∷ terms) zero each = ap unsigned_abs (sym each.0)
terms_same value other (term ∷ terms) (suc k) each = terms_same value other terms k each.1

-- the flow is the least of the terms, and the switch of the first least is on, and no other
move_says : {C : Type 0} (value : C → ℤ) (flow : C) (terms : List (Term C)) (switch : ℕ → C) (u most : ℕ → ℕ) → AreMoves value flow switch (length terms) →
    ((k : ℕ) → u k ≡ term_at value terms k) → ((k : ℕ) → most k ≡ most_at terms k) → AllMeet value (least_rows flow terms switch) →
    (f : ℕ) × IsFirstLeast (length terms) u (unsigned_abs (value flow)) f × IsOnlyOn (length terms) (λ k. unsigned_abs (value (switch k))) f
unfolding least_rows
move_says value flow terms switch u most moves us mosts met =
    let count : ℕ = length terms in
    let y : ℕ = unsigned_abs (value flow) in
    let c : ℕ → ℕ = λ k. unsigned_abs (value (switch k)) in
    let rows : AllMeet value (lower_rows flow switch count 0 terms) × AllMeet value (upper_rows flow switch 0 terms) =
    AllMeet-parts value (lower_rows flow switch count 0 terms) (upper_rows flow switch 0 terms) met.1 in
    let are : AreTerms value u most 0 terms = terms_are value flow switch count u most 0 terms moves rows.0 (λ k inside. ap u (omega arith) ∙ us k) (λ k inside. ap most (omega arith) ∙ mosts k) in
    let is_flow : value flow ≡ pos y = omega (arith, ints, moves.not_negative) in
    let on : (k : ℕ) → k < count → value (switch k) ≡ pos (c k) = λ k inside. let low : pos 0 ≤ℤ value (switch k) = moves.low k inside in omega (arith, ints, low) in
    let hold : SwitchesHold count u most y c = (switches_hold_below value flow terms switch u most y c is_flow on are).0 met in
    first_least_from_switches count u most y c hold (λ k inside. let high : value (switch k) ≤ℤ pos 1 = moves.high k inside in omega (arith, ints, high, on k inside))

-- two values of each column that meet the rows, for the same terms, have one flow and the same switches
pub move_once : {C : Type 0} (value other : C → ℤ) (flow : C) (terms : List (Term C)) (switch : ℕ → C) → Each (λ (term : Term C). Same value other term.of) terms →
    AreMoves value flow switch (length terms) → AreMoves other flow switch (length terms) → AllMeet value (least_rows flow terms switch) → AllMeet other (least_rows flow terms switch) →
    (value flow ≡ other flow) × ((k : ℕ) → k < length terms → value (switch k) ≡ other (switch k))
move_once value other flow terms switch same moves too met meets =
    let count : ℕ = length terms in
    let u : ℕ → ℕ = term_at value terms in
    let first = move_says value flow terms switch u (most_at terms) moves (λ k. refl) (λ k. refl) met in
    let second = move_says other flow terms switch u (most_at terms) too (λ k. sym (terms_same value other terms k same)) (λ k. refl) meets in
    let once : (unsigned_abs (value flow) ≡ unsigned_abs (other flow)) × (first.0 ≡ second.0) =
    first_least-only count u (unsigned_abs (value flow)) first.0 (unsigned_abs (other flow)) second.0 first.1 second.1 in (
      omega (arith, ints, once.0, moves.not_negative, too.not_negative),
      λ k inside.
          let here : unsigned_abs (value (switch k)) ≡ one_where (k == first.0) = only_on-test count (λ j. unsigned_abs (value (switch j))) first.0 first.2 k inside in
          let there : unsigned_abs (other (switch k)) ≡ one_where (k == second.0) = only_on-test count (λ j. unsigned_abs (other (switch j))) second.0 second.2 k inside in
          let both : unsigned_abs (value (switch k)) ≡ unsigned_abs (other (switch k)) = here ∙ ap (λ f. one_where (k == f)) once.1 ∙ sym there in
          let low : pos 0 ≤ℤ value (switch k) = moves.low k inside in
          let low_too : pos 0 ≤ℤ other (switch k) = too.low k inside in
          omega (arith, ints, both, low, low_too),
    )
