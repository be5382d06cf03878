-- The rows of a move are met exactly where its flow is the first least term, in whole numbers; and rows as a program holds them.
use Rattle.std.proofs.Common.{◌≡◌, ◌⊎◌, inl, inr, ℕ, zero, suc, ◌+◌, ◌<◌, ◌≤◌, List, [], ◌∷◌, length, map, get_or, All, Option, Some, None, refl, ap, ◌∙◌, sym, arith, ◌↔◌}
use Rattle.std.specs.Prelude.{ℤ, pos, ◌≤ℤ◌, unsigned_abs, ◌*ℤ◌}
use Rattle.std.proofs.lemmas.Int.{ints}
use Rattle.std.proofs.lemmas.List.{length-map}
use Rattle.std.proofs.lemmas.List.Elements.{All-cons, All-from_get_or, All-head, All-nil, All-tail}
use Rattle.sparse_program.specs.Program.{Holds}
use Rattle.sparse_program.specs.declared.row.Row.{Row}
use Rattle.program_model.specs.Rows.{AllMeet, SumRow, sum_at, total}
use Rattle.program_model.specs.SwitchRows.{Term, least_rows}
use Rattle.program_model.proofs.FirstLeast as least
use Rattle.program_model.proofs.MoveRows.{AreTerms, switches_hold_below}
use Rattle.program_model.proofs.SparseLaws.{holds-sparse}
use Rattle.program_model.proofs.SumLaws.{sum_at-times}
use Rattle.program_model.proofs.Switches.{IsOnlyOn, SwitchesHold, first_least_from_switches, switches_from_first_least}
use Rattle.flow_switches.specs.Moves.{IsLeastFlow, IsShutOrOpen, IsTermWithin, IsWithin, terms_at}
use Rattle.flow_switches.specs.Sums.{cap_sum, held}

-- what the terms come to, as natural numbers, and their mosts
abbrev counts : (ℕ → ℤ) → List (Term ℕ) → ℕ → ℕ
counts value terms m = unsigned_abs (get_or (terms_at value terms) m (pos 0))

abbrev mosts : List (Term ℕ) → ℕ → ℕ
mosts terms m = get_or (map (λ (term : Term ℕ). term.most) terms) m 0

-- terms of which the first has number m come to these numbers
are_terms : (value : ℕ → ℤ) (u most : ℕ → ℕ) (m : ℕ) (terms : List (Term ℕ)) → All (IsTermWithin value) terms →
    ((k : ℕ) → u (m + k) ≡ counts value terms k) → ((k : ℕ) → most (m + k) ≡ mosts terms k) → AreTerms value u most m terms
are_terms value u most m [] each us most_is = tt
are_terms value u most m (term ∷ terms) each us most_is =
    let here : m + 0 ≡ m = omega arith in
    let range : IsTermWithin value term = All-head (IsTermWithin value) term terms each in
    let count : u m ≡ unsigned_abs (sum_at value term.of) = ap u (sym here) ∙ us 0 in
    let greatest : most m ≡ term.most = ap most (sym here) ∙ most_is 0 in (
      (omega (arith, ints, range.0, count), sym greatest),
      are_terms value u most (m + 1) terms (All-tail (IsTermWithin value) term terms each)
          (λ k. let next : m + 1 + k ≡ m + suc k = omega arith in ap u next ∙ us (suc k)) (λ k. let next : m + 1 + k ≡ m + suc k = omega arith in ap most next ∙ most_is (suc k)),
    )

-- each is what it comes to, and at most the most
at_place : (value : ℕ → ℤ) (terms : List (Term ℕ)) → All (IsTermWithin value) terms → (m : ℕ) → m < length terms →
    (get_or (terms_at value terms) m (pos 0) ≡ pos (counts value terms m)) × (counts value terms m ≤ mosts terms m)
at_place value [] each m inside = absurd (omega (arith, inside))
at_place value (term ∷ terms) each zero inside =
    let range : IsTermWithin value term = All-head (IsTermWithin value) term terms each in
    (omega (arith, ints, range.0), omega (arith, ints, range.0, range.1))
at_place value (term ∷ terms) each (suc m) inside = at_place value terms (All-tail (IsTermWithin value) term terms each) m (omega (arith, inside))

-- a switch that is off or on is 0 or 1
small_switch : (z : ℤ) → (z ≡ pos 0) ⊎ (z ≡ pos 1) → (z ≡ pos (unsigned_abs z)) × (unsigned_abs z ≤ 1)
small_switch z is = elim is [ inl off ↦ rw off (refl, omega arith) | inr on ↦ rw on (refl, omega arith) ]

-- a switch by its natural number
as_whole : (z : ℤ) (n : ℕ) → z ≡ pos (unsigned_abs z) → unsigned_abs z ≡ n → z ≡ pos n
as_whole z n natural is = natural ∙ ap pos is

-- in whole numbers, from natural ones
to_whole : (value : ℕ → ℤ) (flow : ℕ) (terms : List (Term ℕ)) (switch : ℕ → ℕ) (place : ℕ) → IsWithin value flow terms switch →
    least.IsFirstLeast (length terms) (counts value terms) (unsigned_abs (value flow)) place → IsOnlyOn (length terms) (λ m. unsigned_abs (value (switch m))) place →
    IsLeastFlow value flow terms switch place
to_whole value flow terms switch place within is only =
    let long : length (terms_at value terms) ≡ length terms = length-map terms (λ (term : Term ℕ). sum_at value term.of) in
    record {
      least = record {
        within = omega (arith, is.within, long);
        is = omega (arith, ints, (at_place value terms within.terms_within place is.within).0, is.is, within.flow_within);
        least = All-from_get_or (λ (number : ℤ). value flow ≤ℤ number) (terms_at value terms) (pos 0)
            (λ m inside. let below : m < length terms = omega (arith, inside, long) in
            omega (arith, ints, (at_place value terms within.terms_within m below).0, is.least m below, within.flow_within));
        first = λ m before.
            omega (arith, ints, (at_place value terms within.terms_within m (omega (arith, before, is.within))).0, is.first m before, within.flow_within);
      };
      on = as_whole (value (switch place)) 1 (small_switch (value (switch place)) (within.switches_within place only.within)).0 only.on;
      off = λ m inside apart. as_whole (value (switch m)) 0 (small_switch (value (switch m)) (within.switches_within m inside)).0 (only.off m inside apart);
    }

-- and the other way round
to_natural : (value : ℕ → ℤ) (flow : ℕ) (terms : List (Term ℕ)) (switch : ℕ → ℕ) (place : ℕ) → IsWithin value flow terms switch → IsLeastFlow value flow terms switch place →
    least.IsFirstLeast (length terms) (counts value terms) (unsigned_abs (value flow)) place × IsOnlyOn (length terms) (λ m. unsigned_abs (value (switch m))) place
to_natural value flow terms switch place within is =
    let long : length (terms_at value terms) ≡ length terms = length-map terms (λ (term : Term ℕ). sum_at value term.of) in
    let there : place < length terms = omega (arith, is.least.within, long) in (
      record {
        within = there;
        is = ap unsigned_abs is.least.is;
        least = λ m inside.
            omega (arith, ints, (at_place value terms within.terms_within m inside).0, is.least.least m (pos 0) (omega (arith, inside, long)), within.flow_within);
        first = λ m before.
            omega (arith, ints, (at_place value terms within.terms_within m (omega (arith, before, there))).0, is.least.first m before, within.flow_within);
      },
      record { within = there; on = ap unsigned_abs is.on; off = λ m inside apart. ap unsigned_abs (is.off m inside apart) },
    )

-- the rows are met exactly where the flow is the first least term
pub first_least_term : (value : ℕ → ℤ) (flow : ℕ) (terms : List (Term ℕ)) (switch : ℕ → ℕ) → IsWithin value flow terms switch →
    AllMeet value (least_rows flow terms switch) ↔ ((place : ℕ) × IsLeastFlow value flow terms switch place)
first_least_term value flow terms switch within =
    let u : ℕ → ℕ = counts value terms in
    let most : ℕ → ℕ = mosts terms in
    let y : ℕ = unsigned_abs (value flow) in
    let c : ℕ → ℕ = λ m. unsigned_abs (value (switch m)) in
    let flows : value flow ≡ pos y = omega (arith, ints, within.flow_within) in
    let on : (m : ℕ) → m < length terms → value (switch m) ≡ pos (c m) = λ m inside. (small_switch (value (switch m)) (within.switches_within m inside)).0 in
    let same : AllMeet value (least_rows flow terms switch) ↔ SwitchesHold (length terms) u most y c =
    switches_hold_below value flow terms switch u most y c flows on
    (are_terms value u most 0 terms within.terms_within (λ k. let at : 0 + k ≡ k = omega arith in ap u at) (λ k. let at : 0 + k ≡ k = omega arith in ap most at)) in (
      (λ met.
          let found : (place : ℕ) × least.IsFirstLeast (length terms) u y place × IsOnlyOn (length terms) c place =
          first_least_from_switches (length terms) u most y c (same.0 met) (λ m inside. (small_switch (value (switch m)) (within.switches_within m inside)).1) in
          (found.0, to_whole value flow terms switch found.0 within found.1 found.2)),
      (λ found.
          let is : least.IsFirstLeast (length terms) u y found.0 × IsOnlyOn (length terms) c found.0 = to_natural value flow terms switch found.0 within found.1 in
          same.1 (switches_from_first_least (length terms) u most y c found.0 is.0 is.1 (λ m inside. (at_place value terms within.terms_within m inside).1))),
    )

-- the term of a cap is 0 where its gate is shut, and the cap where it is open
pub capped_within : (value : ℕ → ℤ) (cap : ℕ) (gate : Option (List ℕ)) → IsShutOrOpen value gate → IsTermWithin value (record { of = cap_sum cap gate; most = cap })
capped_within value cap None is = (omega (arith, ints), omega (arith, ints))
capped_within value cap (Some gate) is =
    let product : sum_at value (cap_sum cap (Some gate)) ≡ pos cap *ℤ sum_at value (total gate) = sum_at-times value (pos cap) (total gate) in
    elim is [
      | inl shut ↦ rw (product, shut) (omega (arith, ints), omega (arith, ints))
      | inr open_ ↦ rw (product, open_) (omega (arith, ints), omega (arith, ints))
    ]

-- rows as a program holds them
pub held_rows_hold : (value : ℕ → ℤ) (rows : List (SumRow ℕ)) → All (λ (row : Row). Holds row value) (map held rows) ↔ AllMeet value rows
held_rows_hold value [] = ((λ hold. tt), (λ met. All-nil (λ (row : Row). Holds row value)))
held_rows_hold value (row ∷ rows) =
    let P : Row → Type 0 = λ (other : Row). Holds other value in (
      (λ hold. ((holds-sparse value (λ (column : ℕ). column) row).0 (All-head P (held row) (map held rows) hold), (held_rows_hold value rows).0 (All-tail P (held row) (map held rows) hold))),
      (λ met. All-cons P (held row) (map held rows) ((holds-sparse value (λ (column : ℕ). column) row).1 met.0) ((held_rows_hold value rows).1 met.1)),
    )
