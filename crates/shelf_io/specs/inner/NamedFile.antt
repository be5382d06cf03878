-- The first file of a name in a list.
use Rattle.std.specs.Prelude.{ℕ, Bool, cond, List, [], ◌∷◌, Option, Some, None}
use Rattle.std.specs.Str.{bytes_eq}
use Rattle.shelf_io.specs.declared.file_map.File.{File}

-- the file has the name
abbrev pub is_named : List ℕ → File → Bool
is_named name file = bytes_eq name file.name

-- the bytes of the first file of the name, if there is one
abbrev pub bytes_named : List ℕ → List File → Option (List ℕ)
bytes_named name [] = None
bytes_named name (file ∷ others) = cond (is_named name file) (Some file.bytes) (bytes_named name others)
