-- Values whose products with coefficients stay small.
use Rattle.std.specs.Prelude.{ℕ, ◌<◌, ℤ, List, length}
use Rattle.sparse_program.specs.Terms.{IsSmall}
use Rattle.program_model.specs.Points.{value_at}

-- each value is at most 2^20 in absolute value
abbrev pub AreSmall : List ℤ → Type 0
AreSmall point = (j : ℕ) → j < length point → IsSmall (value_at point j)
