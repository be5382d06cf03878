-- What the rows of a move say: its flow is the least of its terms, and its one switch that is on stands at the first of the
-- least (docs/program.md, "Switches").
use Rattle.std.specs.Prelude.{◌≡◌, ◌≢◌, ◌⊎◌, ℕ, ◌<◌, ℤ, pos, ◌≤ℤ◌, List, All, length, map, Option, Some, None}
use Rattle.program_model.specs.Rows.{sum_at, total}
use Rattle.program_model.specs.SwitchRows.{Term}
use Rattle.flow_switches.specs.FirstLeast.{IsFirstLeast}

-- what terms come to, where each column has a value
abbrev pub terms_at : (ℕ → ℤ) → List (Term ℕ) → List ℤ
terms_at value terms = map (λ (term : Term ℕ). sum_at value term.of) terms

-- what a term comes to is between 0 and its most
abbrev pub IsTermWithin : (ℕ → ℤ) → Term ℕ → Type 0
IsTermWithin value term = (pos 0 ≤ℤ sum_at value term.of) × (sum_at value term.of ≤ℤ pos term.most)

-- a gate, if there is one, is shut or open: its columns add up to 0 or 1
abbrev pub IsShutOrOpen : (ℕ → ℤ) → Option (List ℕ) → Type 0
IsShutOrOpen value None = Unit {0}
IsShutOrOpen value (Some gate) = (sum_at value (total gate) ≡ pos 0) ⊎ (sum_at value (total gate) ≡ pos 1)

-- the flow is not below 0, each term is between 0 and the most that it comes to, and each switch is off or on
pub record IsWithin (value : ℕ → ℤ) (flow : ℕ) (terms : List (Term ℕ)) (switch : ℕ → ℕ) : Type 0 where
  pub flow_within : pos 0 ≤ℤ value flow
  pub terms_within : All (IsTermWithin value) terms
  pub switches_within : (m : ℕ) → m < length terms → (value (switch m) ≡ pos 0) ⊎ (value (switch m) ≡ pos 1)

-- the flow is the least of the terms, and of the switches the one of the first least term is on, and no other
pub record IsLeastFlow (value : ℕ → ℤ) (flow : ℕ) (terms : List (Term ℕ)) (switch : ℕ → ℕ) (place : ℕ) : Type 0 where
  pub least : IsFirstLeast (terms_at value terms) place (value flow)
  pub on : value (switch place) ≡ pos 1
  pub off : (m : ℕ) → m < length terms → m ≢ place → value (switch m) ≡ pos 0
