-- How what a part of a command found stands to what the files deserve, and what was done with it.
use Rattle.std.specs.Prelude.{◌≡◌, ℕ, ◌⊎◌, Result, Ok, Err}
use Rattle.shelf_io.specs.Told.{Files, ShelfState, StopsInText, read_failed, with_taken}
use Rattle.shelf_io.specs.declared.whole_file.ReadAll.{ReadAll}
use Rattle.shelf_io.specs.declared.whole_file.ReadAll.TheVariants as ended
use Rattle.signal_cli.specs.Faults.{line_of, reply_status, status_of}
use Rattle.signal_cli.specs.Worlds.{ForFiles, ForTold, PutsAsFar, StopsInFiles, World, with_files}
use Rattle.signal_cli.specs.declared.fault.Fault.{Fault}
use Rattle.signal_cli.specs.declared.fault.Fault.TheVariants.{Read, Memory}
use Rattle.signal_cli.specs.declared.input.Content.{Content}
use Rattle.signal_cli.specs.declared.input.Content.TheVariants.{TooLong}
use Rattle.signal_cli.specs.declared.reply.Reply.{Reply}

-- what comes of a reading that ended before the whole file was read
abbrev pub ended_as : ReadAll → Result Content Fault
ended_as ended.TooLong = Ok TooLong
ended_as ended.Fault = Err Read
ended_as ended.Memory = Err Memory

-- an answer for which nothing was read is what is deserved; want of memory says nothing
abbrev pub Gives : {X : Type 0} → Result X Fault → Result X Fault → Type 0
Gives (Err Memory) deserved = Unit {0}
Gives (Err Read) deserved = ⊥
Gives (Ok x) deserved = deserved ≡ Ok x
Gives (Err fault) deserved = deserved ≡ Err fault

-- the same for an outcome that is deserved where nothing is read
abbrev pub Makes : (Result Reply Fault → Type 0) → Result Reply Fault → Type 0
Makes IsDeserved (Err Memory) = Unit {0}
Makes IsDeserved (Err Read) = ⊥
Makes IsDeserved outcome = IsDeserved outcome

-- what the part of a command found that reads: what the files deserve, and the shelf is as it was; a read that failed and was
-- counted, or a told file that is not there; or want of memory
abbrev pub Finds : {X : Type 0} → (Files → Result X Fault → Type 0) → Result X Fault → ShelfState → ShelfState → Type 0
Finds Deserves (Err Memory) before after = after ≡ before
Finds Deserves (Err Read) before after = (after ≡ read_failed before) ⊎ ((after ≡ before) × ForTold before.files (λ files. Deserves files (Err Read)))
Finds Deserves (Ok x) before after = (after ≡ before) × ForFiles before.files (λ files. Deserves files (Ok x))
Finds Deserves (Err fault) before after = (after ≡ before) × ForFiles before.files (λ files. Deserves files (Err fault))

-- what was done with what was found: the reply was written whole, or as far as writes and puts did not fail; or the line of
-- the fault was put as far as puts did not fail, or in place of a line that takes memory that of want of memory
abbrev pub CarriesOut : Result Reply Fault → World → World → ℕ → Type 0
CarriesOut (Ok reply) before after status =
    ((status ≡ reply_status reply) × (after.shelf ≡ with_files before.shelf reply.outputs) × (after.out ≡ with_taken before.out reply.lines))
    ⊎ ((status ≡ 7) × ((StopsInFiles before.shelf reply.outputs after.shelf × (after.out ≡ before.out))
    ⊎ ((after.shelf ≡ with_files before.shelf reply.outputs) × StopsInText before.out reply.lines after.out)))
CarriesOut (Err Read) before after status = (status ≡ status_of Read) × (after.shelf ≡ before.shelf) × PutsAsFar before.out (line_of Read) after.out
CarriesOut (Err fault) before after status =
    ((status ≡ status_of fault) × (after.shelf ≡ before.shelf) × PutsAsFar before.out (line_of fault) after.out)
    ⊎ ((status ≡ 8) × (after.shelf ≡ before.shelf) × PutsAsFar before.out (line_of Memory) after.out)
