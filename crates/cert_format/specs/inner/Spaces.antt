-- The words of a leaf's pairs as they are written.
use Rattle.std.specs.Prelude.{ℕ, ℤ, List, ◌∷◌, ◌++◌}
use Rattle.std.specs.Fmt.{decimal, signed_decimal}

-- a row and its price, each behind a space
abbrev pub spaced_pair : ℕ × ℤ → List ℕ
spaced_pair pair = 32 ∷ (decimal pair.0 ++ 32 ∷ signed_decimal pair.1)
