-- Lists of which every number is 0.
use Rattle.std.specs.Prelude.{◌≡◌, ℤ, pos, List, All}

-- every number is 0
abbrev pub AreZero : List ℤ → Type 0
AreZero values = All (λ (value : ℤ). value ≡ pos 0) values
