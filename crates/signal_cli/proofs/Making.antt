-- What a part of a command made for which nothing was read.
use Rattle.std.proofs.Common.{Option, Some, None, Result, Ok, Err, refl}
use Rattle.std.specs.FinMap as map
use Rattle.shelf_io.specs.Told.{Files, ShelfState}
use Rattle.signal_cli.specs.Worlds.{ForFiles}
use Rattle.signal_cli.specs.declared.fault.Fault.{Fault}
use Rattle.signal_cli.specs.declared.fault.Fault.TheVariants.{Read, Memory}
use Rattle.signal_cli.specs.declared.reply.Reply.{Reply}
use Rattle.signal_cli.specs.inner.Causes.{Finds, Makes}

-- what holds of some or all files, whatever they hold
of_files : (told : Option Files) (P : Type 0) → P → ForFiles told (λ files. P)
of_files None P holds = (map.empty, holds)
of_files (Some files) P holds = holds

pub whatever_files : (told : Option Files) (P : Type 0) → ForFiles told (λ files. P) → P
whatever_files None P holds = holds.1
whatever_files (Some files) P holds = holds

-- an outcome that is deserved whatever the files hold
pub made_found : (IsDeserved : Result Reply Fault → Type 0) (outcome : Result Reply Fault) (shelf : ShelfState) → Makes IsDeserved outcome → Finds (λ files. IsDeserved) outcome shelf shelf
made_found IsDeserved (Err Memory) shelf made = refl
made_found IsDeserved (Err Read) shelf made = absurd made
made_found IsDeserved (Ok reply) shelf made = (refl, of_files shelf.files (IsDeserved (Ok reply)) made)
made_found IsDeserved (Err fault) shelf made = (refl, of_files shelf.files (IsDeserved (Err fault)) made)
