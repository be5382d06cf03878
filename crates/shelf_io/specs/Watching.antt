-- What is noted of the calls on a shelf.
use Rattle.std.specs.Prelude.{◌≡◌, ◌⊎◌, ℕ, List, [], ◌∷◌, ◌++◌, string_bytes}
use Rattle.std.specs.declared.string.String.{String}

-- the call is noted last, with the bytes of its name in a text; or no note is added
abbrev pub Notes : {A C : Type 0} → List C → List ℕ → (String A → C) → List C → Type 0
Notes {A} before name call after = ((text : String A) × (string_bytes text ≡ name) × (after ≡ before ++ call text ∷ [])) ⊎ (after ≡ before)
