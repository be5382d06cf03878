-- What a run promises for each command line (README.md, "What is proved").
use Rattle.std.specs.Prelude.{◌≡◌, ℕ, ◌≤◌, ◌⊎◌, List, [], ◌∷◌, Option, Some, None, Result, Ok, Err, IfSome, Contains, codes}
use Rattle.shelf_io.specs.Told.{Files, StopsInText, read_failed, with_taken}
use Rattle.signal_cli.specs.Answers.{Deserves}
use Rattle.signal_cli.specs.Commands.{Command, outputs_of}
use Rattle.signal_cli.specs.Faults.{line, line_of, outcome_status, reply_status, status_of}
use Rattle.signal_cli.specs.Worlds.{ForFiles, ForTold, NoneFailed, PutsAsFar, StopsInFiles, Untouched, World, with_files}
use Rattle.signal_cli.specs.declared.fault.Fault.{Fault}
use Rattle.signal_cli.specs.declared.fault.Fault.TheVariants.{Read, Memory}
use Rattle.signal_cli.specs.declared.reply.Reply.{Reply}

-- the statuses that a command can end with; 2 is that of words of no form
abbrev pub statuses_of_commands : List ℕ
statuses_of_commands = 0 ∷ 1 ∷ 3 ∷ 4 ∷ 5 ∷ 6 ∷ 7 ∷ 8 ∷ []

-- words of no form: status 2 and the line `words`; the files and the counts of the shelf are as they were
pub record RefusesWords (before after : World) (status : ℕ) : Type 0 where
  pub answered : status ≡ 2
  pub shelf : after.shelf ≡ before.shelf
  pub put : PutsAsFar before.out (line (codes "words")) after.out
  pub untouched : Untouched [] before after

-- Below, Deserves says which outcomes the files deserve: a reply, or the fault that comes first in the order of judging.
module _ (Deserves : Files → Result Reply Fault → Type 0) (before after : World) where
  -- a reply that the files deserve was written: all its files, and then all its lines
  pub record Answered (status : ℕ) : Type 0 where
    pub reply : Reply
    pub deserved : ForFiles before.shelf.files (λ files. Deserves files (Ok reply))
    pub is : reply_status reply ≡ status
    pub written : after.shelf ≡ with_files before.shelf reply.outputs
    pub put : after.out ≡ with_taken before.out reply.lines

  -- the files deserve a fault, no file changed, and the fault's line was put as far as puts did not fail
  pub record Refused (status : ℕ) : Type 0 where
    pub fault : Fault
    pub deserved : ForFiles before.shelf.files (λ files. Deserves files (Err fault))
    pub is : status_of fault ≡ status
    pub unchanged : after.shelf ≡ before.shelf
    pub put : PutsAsFar before.out (line_of fault) after.out

  -- a read failed and was counted, or the first told file that is wanted is not there; no file changed
  pub record FailedToRead : Type 0 where
    pub cause : (after.shelf ≡ read_failed before.shelf) ⊎ ((after.shelf ≡ before.shelf) × ForTold before.shelf.files (λ files. Deserves files (Err Read)))
    pub put : PutsAsFar before.out (line_of Read) after.out

  -- a reply that the files deserve was not written whole: a write failed and was counted, and nothing was put; or all its
  -- files stand, and a put failed and was counted
  pub record FailedToWrite : Type 0 where
    pub reply : Reply
    pub deserved : ForFiles before.shelf.files (λ files. Deserves files (Ok reply))
    pub stopped : (StopsInFiles before.shelf reply.outputs after.shelf × (after.out ≡ before.out))
        ⊎ ((after.shelf ≡ with_files before.shelf reply.outputs) × StopsInText before.out reply.lines after.out)

  -- memory was wanting, no file changed, and the line that says so was put as far as puts did not fail
  pub record WantedMemory : Type 0 where
    pub unchanged : after.shelf ≡ before.shelf
    pub put : PutsAsFar before.out (line_of Memory) after.out

  -- what a command keeps that may write the outputs
  pub record KeepsReply (outputs : List (List ℕ)) (status : ℕ) : Type 0 where
    -- no other status comes
    pub statuses : Contains statuses_of_commands status
    -- 0 and 1
    pub answered : status ≤ 1 → Answered status
    -- 3 to 5
    pub refused : 3 ≤ status → status ≤ 5 → Refused status
    -- 6
    pub read_fault : status ≡ 6 → FailedToRead
    -- 7
    pub write_fault : status ≡ 7 → FailedToWrite
    -- 8
    pub want_of_memory : status ≡ 8 → WantedMemory
    -- inputs and files that the words do not name never change, and no count falls
    pub untouched : Untouched outputs before after
    -- where files are told and no read, write or put failed, the status is that of an outcome that they deserve, or 8
    pub complete : NoneFailed before after → IfSome before.shelf.files (λ files. (status ≡ 8) ⊎ ((outcome : Result Reply Fault) × Deserves files outcome × (outcome_status outcome ≡ status)))

-- what a run keeps, by what its words ask for
abbrev pub Keeps : Option Command → World → World → ℕ → Type 0
Keeps None before after status = RefusesWords before after status
Keeps (Some command) before after status = KeepsReply (Deserves command) before after (outputs_of command) status
