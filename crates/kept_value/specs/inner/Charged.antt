-- What columns come to while the terms of a row pay more for them, term by term.
use Rattle.std.specs.Prelude.{ℕ, ◌<◌, ◌≤◌, ◌^◌, ℤ, ◌+ℤ◌, ◌-ℤ◌, ◌*ℤ◌, ◌≤ℤ◌, unsigned_abs, Bool, List, length}
use Rattle.listed.specs.Below.{whole_sum_below}
use Rattle.sparse_program.specs.Box.{Ranges}
use Rattle.sparse_program.specs.Terms.{coefficient}
use Rattle.certificate_model.specs.Value.{column_value}
use Rattle.kept_value.specs.Kept.{best_bound, goes_to_low, reduced_at}

-- no reduced cost is greater than prices of all rows can make it
pub record AreModest (reduced : List ℤ) : Type 0 where
  pub each : (j : ℕ) → j < length reduced → unsigned_abs (reduced_at reduced j) ≤ 2 ^ 79

-- so are the reduced costs that are kept, and the value is no greater than they can make it
pub record AreModerate (reduced : List ℤ) (value : ℤ) : Type 0 where
  pub costs : AreModest reduced
  pub small : unsigned_abs value < 2 ^ 120

-- the least that the first columns come to, where one unit of each costs so much
unfoldable pub least_of : ℕ → Ranges → (ℕ → ℤ) → ℤ
least_of columns box costs = whole_sum_below columns (λ j. column_value box (costs j) j)

-- what one unit of each column costs once terms pay more for it: each its coefficient times a price
abbrev pub charged : (ℕ → ℤ) → ℤ → List (ℕ × ℤ) → ℕ → ℤ
charged costs price terms j = costs j -ℤ price *ℤ coefficient terms j

-- where columns stand once terms pay more for them, as the price rises further, or as it falls
abbrev pub stands_at : Ranges → (ℕ → ℤ) → List (ℕ × ℤ) → ℤ → Bool → ℕ → ℤ
stands_at box costs terms price rises j = best_bound box (charged costs price terms j) (goes_to_low (coefficient terms j) rises) j

-- from a price that terms pay more for their columns, the columns come to no more at any other than along a straight line with this slope
abbrev pub IsSteepest : ℕ → Ranges → (ℕ → ℤ) → List (ℕ × ℤ) → ℤ → ℤ → Type 0
IsSteepest columns box costs terms price slope =
    (other : ℤ) → least_of columns box (charged costs other terms) ≤ℤ (least_of columns box (charged costs price terms) +ℤ (other -ℤ price) *ℤ slope)
