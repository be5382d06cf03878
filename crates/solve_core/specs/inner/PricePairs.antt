-- The pairs of a list of prices: its rows whose price is not 0, each with it.
use Rattle.std.specs.Prelude.{ℕ, zero, suc, ℤ, pos, if◌then◌else◌, List, [], ◌∷◌, ◌++◌}
use Rattle.std.specs.Ordering.{int_eq}
use Rattle.safe_bound.specs.Prices.{price_at}

-- the pairs of the rows below a count
unfoldable pub pairs_below : List ℤ → ℕ → List (ℕ × ℤ)
pairs_below prices zero = []
pairs_below prices (suc n) =
    if int_eq (price_at prices n) (pos 0) then pairs_below prices n else pairs_below prices n ++ (n, price_at prices n) ∷ []
