-- What errors print.
use Rattle.std.specs.Prelude.{ℕ, List, codes}
use Rattle.shelf_io.specs.declared.whole_file.ReadAll.{ReadAll}
use Rattle.shelf_io.specs.declared.whole_file.ReadAll.TheVariants.{Fault, TooLong, Memory}

-- why a file was not read whole
abbrev pub message_of : ReadAll → List ℕ
message_of Fault = codes "a read failed"
message_of TooLong = codes "the file is too long"
message_of Memory = codes "want of memory"
