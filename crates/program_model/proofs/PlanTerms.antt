-- The terms of a move count what its terms are in traffic, so the rows of a move are met by its flow and its first least term.
use Rattle.std.proofs.Common.{◌≡◌, ℕ, zero, suc, ◌+◌, ◌<◌, ◌≤◌, List, [], ◌∷◌, length, map, get_or, refl, ap, subst, ◌∙◌, sym, arith}
use Rattle.std.specs.Prelude.{◌==◌, ℤ, pos}
use Rattle.traffic_model.specs.Flow.{first_least, flow, least, terms}
use Rattle.program_model.specs.Columns.{Column}
use Rattle.program_model.specs.Rows.{AllMeet, sum_at}
use Rattle.program_model.specs.SwitchRows.{Term, least_rows}
use Rattle.program_model.specs.Values.{one_where}
use Rattle.program_model.proofs.FirstLeast.{IsFirstLeast, first_least-is}
use Rattle.program_model.proofs.MoveRows.{AreTerms, switches_hold}
use Rattle.program_model.proofs.Switches.{IsOnlyOn, only_on-from_test, switches_from_first_least}

-- terms count these numbers, none of which is above the most of its term
abbrev pub Count : (Column → ℤ) → List ℕ → List (Term Column) → Type 0
Count value [] [] = Unit {0}
Count value (number ∷ numbers) (term ∷ terms) = ((sum_at value term.of ≡ pos number) × (number ≤ term.most)) × Count value numbers terms
Count value [] (term ∷ terms) = ⊥
Count value (number ∷ numbers) [] = ⊥

-- as many terms as numbers
length-count : (value : Column → ℤ) (numbers : List ℕ) (terms : List (Term Column)) → Count value numbers terms → length numbers ≡ length terms
length-count value [] [] count = refl
length-count value (number ∷ numbers) (term ∷ terms) count = ap suc (length-count value numbers terms count.1)
length-count value [] (term ∷ terms) count = absurd count
length-count value (number ∷ numbers) [] count = absurd count

-- the most of each term
abbrev mosts : List (Term Column) → List ℕ
mosts terms = map (λ (term : Term Column). term.most) terms

-- the terms from number m on
are_terms : (value : Column → ℤ) (u most : ℕ → ℕ) (m : ℕ) (numbers : List ℕ) (terms : List (Term Column)) → Count value numbers terms →
    ((k : ℕ) → u (m + k) ≡ get_or numbers k 0) → ((k : ℕ) → most (m + k) ≡ get_or (mosts terms) k 0) → AreTerms value u most m terms
are_terms value u most m [] [] count us mosts_are = tt
are_terms value u most m (number ∷ numbers) (term ∷ terms) count us mosts_are =
    let at : m + 0 ≡ m = omega arith in (
      (count.0.0 ∙ ap pos (sym (ap u (sym at) ∙ us 0)), sym (ap most (sym at) ∙ mosts_are 0)),
      are_terms value u most (m + 1) numbers terms count.1
          (λ k. let next : m + 1 + k ≡ m + suc k = omega arith in ap u next ∙ us (suc k))
          (λ k. let next : m + 1 + k ≡ m + suc k = omega arith in ap most next ∙ mosts_are (suc k)),
    )
are_terms value u most m [] (term ∷ terms) count us mosts_are = absurd count
are_terms value u most m (number ∷ numbers) [] count us mosts_are = absurd count

-- none is above the most of its term
within_most : (value : Column → ℤ) (numbers : List ℕ) (terms : List (Term Column)) → Count value numbers terms → (m : ℕ) → m < length terms → get_or numbers m 0 ≤ get_or (mosts terms) m 0
within_most value [] [] count m inside = absurd (omega arith)
within_most value (number ∷ numbers) (term ∷ terms) count zero inside = count.0.1
within_most value (number ∷ numbers) (term ∷ terms) count (suc m) inside = within_most value numbers terms count.1 m (omega (arith, inside))
within_most value [] (term ∷ terms) count m inside = absurd count
within_most value (number ∷ numbers) [] count m inside = absurd count

-- the rows of a move whose terms count some numbers are met by the least of them and its first place
pub least_rows_are_met : (value : Column → ℤ) (numbers : List ℕ) (terms : List (Term Column)) (flow : Column) (switch : ℕ → Column) (c : ℕ → ℕ) →
    Count value numbers terms → 0 < length terms → value flow ≡ pos (least numbers) → ((m : ℕ) → value (switch m) ≡ pos (c m)) →
    ((m : ℕ) → c m ≡ one_where (m == first_least numbers)) → AllMeet value (least_rows flow terms switch)
least_rows_are_met value numbers terms flow switch c count some flows on first =
    let long : length numbers ≡ length terms = length-count value numbers terms count in
    let u : ℕ → ℕ = λ m. get_or numbers m 0 in
    let most : ℕ → ℕ = λ m. get_or (mosts terms) m 0 in
    let is : IsFirstLeast (length terms) u (least numbers) (first_least numbers) =
    subst (λ (n : ℕ). IsFirstLeast n u (least numbers) (first_least numbers)) long (first_least-is numbers (omega (arith, some, long))) in
    let only : IsOnlyOn (length terms) c (first_least numbers) = only_on-from_test (length terms) c (first_least numbers) is.within (λ k inside. first k) in
    (switches_hold value flow terms switch u most (least numbers) c flows on
    (are_terms value u most 0 numbers terms count (λ k. ap u (omega arith)) (λ k. ap most (omega arith)))).1
    (switches_from_first_least (length terms) u most (least numbers) c (first_least numbers) is only (within_most value numbers terms count))
