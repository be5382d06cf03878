-- What ends a reading without the whole file.
use Rattle.std.specs.Prelude.{◌≡◌, ℕ, ◌<◌, List, length}
use Rattle.shelf_io.specs.Told.{FailsToRead, IfTold, ShelfState}
use Rattle.shelf_io.specs.declared.whole_file.ReadAll.{ReadAll}
use Rattle.shelf_io.specs.declared.whole_file.ReadAll.TheVariants.{Fault, TooLong, Memory}

-- why a file of at most so many bytes was not read whole: a read failed; a told file is longer; or memory was wanting
abbrev pub EndsReading : ReadAll → ℕ → ShelfState → List ℕ → ShelfState → Type 0
EndsReading Fault limit before name after = FailsToRead before name after
EndsReading TooLong limit before name after = (after ≡ before) × IfTold before.files name (λ bytes. limit < length bytes)
EndsReading Memory limit before name after = after ≡ before
