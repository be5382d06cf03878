-- One price on one row, and columns that a box fixes (docs/search.md, "Which bits are a plan").
use Rattle.std.specs.Prelude.{◌≡◌, ℕ, ℤ, [], ◌∷◌}
use Rattle.sparse_program.specs.Box.{Ranges, high_of, low_of}
use Rattle.sparse_program.specs.Terms.{coefficient}

-- the prices of which one row has one and all others have none
abbrev pub one_price : ℕ → ℤ → ℕ → ℤ
one_price row price = coefficient ((row, price) ∷ [])

-- a box leaves a column one value, which is that of a point
pub record IsFixedAt (box : Ranges) (x : ℕ → ℤ) (j : ℕ) : Type 0 where
  pub low : low_of box j ≡ x j
  pub high : high_of box j ≡ x j
