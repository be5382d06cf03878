-- What is noted of a call, where memory may be wanting.
use Rattle.std.proofs.Common.{◌≡◌, ◌⊎◌, ℕ, List, [], ◌∷◌, ◌++◌, inl, inr}
use Rattle.std.specs.Prelude.{string_bytes}
use Rattle.std.specs.declared.string.String.{String}
use Rattle.shelf_io.specs.Watching.{Notes}

-- a call that was put last, or could not be
pub put_last : {A C : Type 0} (before after : List C) (name : List ℕ) (call : String A → C) (text : String A) → string_bytes text ≡ name → (after ≡ before ++ call text ∷ []) ⊎ (after ≡ before) → Notes before name call after
put_last before after name call text named (inl put) = inl (text, named, put)
put_last before after name call text named (inr kept) = inr kept
