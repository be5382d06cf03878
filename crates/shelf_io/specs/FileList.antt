-- Files by their names.
use Rattle.std.specs.Prelude.{List, [], ◌∷◌}
use Rattle.std.specs.FinMap as map
use Rattle.shelf_io.specs.Told.{Files}
use Rattle.shelf_io.specs.declared.file_map.File.{File}

-- the files by their names; of two files of one name the first stands
abbrev pub files_of : List File → Files
files_of [] = map.empty
files_of (file ∷ others) = map.insert (files_of others) file.name file.bytes
