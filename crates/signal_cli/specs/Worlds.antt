-- What a run can reach, and what it may do there.
use Rattle.std.specs.Prelude.{◌≡◌, ℕ, ◌≤◌, ◌⊎◌, false, List, [], ◌∷◌, ◌++◌, Option, Some, None, option_map}
use Rattle.std.specs.List.{list_any}
use Rattle.std.specs.Str.{bytes_eq}
use Rattle.shelf_io.specs.Told.{Files, Rises, ShelfState, SinkState, StopsInFile, StopsInText, bytes_of, with_file, with_taken}
use Rattle.shelf_io.specs.declared.file_map.File.{File}

-- what a run can reach: the shelf of its files, and the sink that takes its output
pub record World : Type 0 where
  pub shelf : ShelfState
  pub out : SinkState

-- a world of these two
abbrev pub world : ShelfState → SinkState → World
world shelf out = record { shelf = shelf; out = out }

-- P holds of the told files; where files are not told, of some files
abbrev pub ForFiles : Option Files → (Files → Type 0) → Type 0
ForFiles None P = (files : Files) × P files
ForFiles (Some files) P = P files

-- files are told, and P holds of them
abbrev pub ForTold : Option Files → (Files → Type 0) → Type 0
ForTold None P = ⊥
ForTold (Some files) P = P files

-- the shelf once these files were written, one after another
abbrev pub with_files : ShelfState → List File → ShelfState
with_files shelf [] = shelf
with_files shelf (file ∷ files) = with_files (with_file shelf file.name file.bytes) files

-- a write failed and was counted: the files before the one that it was to reach stand whole, that one holds a front of its
-- bytes or is as it was, and those behind it are as they were
pub record StopsInFiles (before : ShelfState) (files : List File) (after : ShelfState) : Type 0 where
  pub done : List File
  pub stopped : File
  pub rest : List File
  pub whole : files ≡ done ++ stopped ∷ rest
  pub stands : StopsInFile (with_files before done) stopped.name stopped.bytes after

-- the text was put, whole or as far as puts did not fail
abbrev pub PutsAsFar : SinkState → List ℕ → SinkState → Type 0
PutsAsFar before text after = (after ≡ with_taken before text) ⊎ StopsInText before text after

-- what a shelf tells of a name
abbrev pub file_at : ShelfState → List ℕ → Option (Option (List ℕ))
file_at shelf name = option_map (λ (files : Files). bytes_of files name) shelf.files

-- but for the files with these names all files are as they were, and no count fell
pub record Untouched (outputs : List (List ℕ)) (before after : World) : Type 0 where
  pub files : (name : List ℕ) → list_any (bytes_eq name) outputs ≡ false → file_at after.shelf name ≡ file_at before.shelf name
  pub read_faults : before.shelf.read_faults ≤ after.shelf.read_faults
  pub write_faults : before.shelf.write_faults ≤ after.shelf.write_faults
  pub put_faults : before.out.faults ≤ after.out.faults

-- no read, no write and no put failed
pub record NoneFailed (before after : World) : Type 0 where
  pub reads : ¬ Rises before.shelf.read_faults after.shelf.read_faults
  pub writes : ¬ Rises before.shelf.write_faults after.shelf.write_faults
  pub puts : ¬ Rises before.out.faults after.out.faults
