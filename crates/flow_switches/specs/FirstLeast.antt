-- The first least number of a list.
use Rattle.std.specs.Prelude.{◌≡◌, ℕ, ◌<◌, ℤ, pos, ◌≤ℤ◌, ◌<ℤ◌, List, All, length, slice_index_or}

-- the value stands at the place, no number of the list is below it, and each earlier one is above it
pub record IsFirstLeast (numbers : List ℤ) (place : ℕ) (value : ℤ) : Type 0 where
  pub within : place < length numbers
  pub is : slice_index_or numbers place (pos 0) ≡ value
  pub least : All (λ (number : ℤ). value ≤ℤ number) numbers
  pub first : (k : ℕ) → k < place → value <ℤ slice_index_or numbers k (pos 0)
