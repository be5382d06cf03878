-- What the loop over the pieces of a file keeps, and what ends it.
use Rattle.std.specs.Prelude.{◌≡◌, ℕ, List, length, take, Option, Some, None, MatchOption}
use Rattle.shelf_io.specs.Told.{Files, FailsToRead, ShelfState, bytes_of}
use Rattle.shelf_io.specs.declared.whole_file.ReadAll.{ReadAll}
use Rattle.shelf_io.specs.declared.whole_file.ReadAll.TheVariants.{Fault, TooLong, Memory}

-- where files are told and the name is among them, what was read so far is the front of its bytes
abbrev pub IsFrontOf : Option Files → List ℕ → List ℕ → Type 0
IsFrontOf None name read = Unit {0}
IsFrontOf (Some told) name read = MatchOption (bytes_of told name) (Unit {0}) (λ bytes. read ≡ take (length read) bytes)

-- why a piece was not read: it is never too long
abbrev pub EndsPiece : ReadAll → ShelfState → List ℕ → ShelfState → Type 0
EndsPiece Fault before name after = FailsToRead before name after
EndsPiece TooLong before name after = ⊥
EndsPiece Memory before name after = after ≡ before
