-- Sums, tables and joins over the numbers below a count, as over all cells of a network or all steps of a run.
use Rattle.std.specs.Prelude.{ℕ, zero, suc, ◌+◌, ℤ, pos, ◌+ℤ◌, List, [], ◌∷◌, ◌++◌}

-- f 0 + .. + f (n - 1)
unfoldable pub sum_below : ℕ → (ℕ → ℕ) → ℕ
sum_below zero f = 0
sum_below (suc n) f = sum_below n f + f n

-- f 0 + .. + f (n - 1), in whole numbers
unfoldable pub whole_sum_below : ℕ → (ℕ → ℤ) → ℤ
whole_sum_below zero f = pos 0
whole_sum_below (suc n) f = whole_sum_below n f +ℤ f n

-- f 0, .., f (n - 1)
unfoldable pub table_of : {X : Type 0} → ℕ → (ℕ → X) → List X
table_of zero f = []
table_of (suc n) f = table_of n f ++ f n ∷ []

-- the elements of f 0, then those of f 1, .., then those of f (n - 1)
unfoldable pub join_below : {X : Type 0} → ℕ → (ℕ → List X) → List X
join_below zero f = []
join_below (suc n) f = join_below n f ++ f n
