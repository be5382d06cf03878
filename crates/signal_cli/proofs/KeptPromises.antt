-- That what was found and carried out keeps what a command promises.
use Rattle.std.proofs.Common.{◌≡◌, ℕ, ◌≤◌, ◌⊎◌, inl, inr, true, false, if◌then◌else◌, List, Option, Some, None, Result, Ok, Err, IfSome, Contains, refl, ap, sym, ◌∙◌, subst, arith}
use Rattle.shelf_io.specs.Told.{Files, Rises, ShelfState, SinkState, StopsInText}
use Rattle.shelf_io.specs.declared.file_map.File.{File}
use Rattle.signal_cli.specs.inner.Causes.{CarriesOut, Finds}
use Rattle.signal_cli.specs.Faults.{line_of, outcome_status, reply_status, status_of}
use Rattle.signal_cli.specs.Promises.{Answered, FailedToRead, FailedToWrite, KeepsReply, Refused, WantedMemory, statuses_of_commands}
use Rattle.signal_cli.specs.Worlds.{ForFiles, ForTold, PutsAsFar, StopsInFiles, World, with_files, world}
use Rattle.signal_cli.specs.declared.fault.Fault.{Fault}
use Rattle.signal_cli.specs.declared.fault.Fault.TheVariants.{NetworkLong, Network, PlanLong, Plan, TooLarge, Read, Memory}
use Rattle.signal_cli.specs.declared.reply.Reply.{Reply}
use Rattle.signal_cli.proofs.Unnamed.{names_of, same_writes, untouched_read, untouched_shelf, untouched_stopped, untouched_written}

-- the status of a reply is 0 or 1
pub small_status : (reply : Reply) → reply_status reply ≤ 1
small_status reply = elim reply.rejected as (λ rejected. (if rejected then 1 else 0) ≤ 1) [ true ↦ omega arith | false ↦ omega arith ]

status_of_reply : (reply : Reply) → Contains statuses_of_commands (reply_status reply)
status_of_reply reply = elim reply.rejected as (λ rejected. Contains statuses_of_commands (if rejected then 1 else 0)) [ true ↦ (1, omega arith, refl) | false ↦ (0, omega arith, refl) ]

-- where the writing of files stopped, the count of writes rose
stopped_rises : (before after : ShelfState) (files : List File) → StopsInFiles before files after → Rises before.write_faults after.write_faults
stopped_rises before after files stops =
    elim stops.stands.stands [
      | inl same ↦ omega (arith, ap (λ (shelf : ShelfState). shelf.write_faults) same, same_writes before stops.done)
      | inr front ↦ omega (arith, ap (λ (shelf : ShelfState). shelf.write_faults) front, same_writes before stops.done)
    ]

module _ (Deserves : Files → Result Reply Fault → Type 0) (outputs : List (List ℕ)) (named : (files : Files) (reply : Reply) → Deserves files (Ok reply) → names_of reply.outputs ≡ outputs) (before after : World) where
  -- the status is that of an outcome that told files deserve, or 8
  explained : (told : Option Files) (outcome : Result Reply Fault) (status : ℕ) → ForFiles told (λ files. Deserves files outcome) → outcome_status outcome ≡ status → IfSome told (λ files. (status ≡ 8) ⊎ ((outcome : Result Reply Fault) × Deserves files outcome × (outcome_status outcome ≡ status)))
  explained None outcome status deserved is = tt
  explained (Some files) outcome status deserved is = inr (outcome, deserved, is)

  explained_read : (told : Option Files) (status : ℕ) → ForTold told (λ files. Deserves files (Err Read)) → status ≡ 6 → IfSome told (λ files. (status ≡ 8) ⊎ ((outcome : Result Reply Fault) × Deserves files outcome × (outcome_status outcome ≡ status)))
  explained_read None status deserved six = absurd deserved
  explained_read (Some files) status deserved six = inr (Err Read, deserved, sym six)

  explained_memory : (told : Option Files) (status : ℕ) → status ≡ 8 → IfSome told (λ files. (status ≡ 8) ⊎ ((outcome : Result Reply Fault) × Deserves files outcome × (outcome_status outcome ≡ status)))
  explained_memory None status eight = tt
  explained_memory (Some files) status eight = inl eight

  -- a reply names the outputs
  outputs_named : (told : Option Files) (reply : Reply) → ForFiles told (λ files. Deserves files (Ok reply)) → names_of reply.outputs ≡ outputs
  outputs_named None reply (files, deserved) = named files reply deserved
  outputs_named (Some files) reply deserved = named files reply deserved

  keeps-answered : (status : ℕ) → Answered Deserves before after status → KeepsReply Deserves before after outputs status
  keeps-answered status answered =
      let small : status ≤ 1 = rw (← answered.is) (small_status answered.reply) in
      record {
        statuses = rw (← answered.is) (status_of_reply answered.reply);
        answered = λ _. answered;
        refused = λ three _. absurd (omega arith);
        read_fault = λ six. absurd (omega arith);
        write_fault = λ seven. absurd (omega arith);
        want_of_memory = λ eight. absurd (omega arith);
        untouched = rw (← outputs_named before.shelf.files answered.reply answered.deserved) (untouched_written before after answered.reply.outputs answered.reply.lines answered.written (inl answered.put));
        complete = λ _. explained before.shelf.files (Ok answered.reply) status answered.deserved answered.is;
      }

  keeps-refused : (status : ℕ) → Contains statuses_of_commands status → 3 ≤ status → status ≤ 5 → Refused Deserves before after status → KeepsReply Deserves before after outputs status
  keeps-refused status known above below refused =
      record {
        statuses = known;
        answered = λ small. absurd (omega arith);
        refused = λ _ _. refused;
        read_fault = λ six. absurd (omega arith);
        write_fault = λ seven. absurd (omega arith);
        want_of_memory = λ eight. absurd (omega arith);
        untouched = untouched_shelf outputs before after (line_of refused.fault) refused.unchanged refused.put;
        complete = λ _. explained before.shelf.files (Err refused.fault) status refused.deserved refused.is;
      }

  keeps-read : (status : ℕ) → status ≡ 6 → FailedToRead Deserves before after → KeepsReply Deserves before after outputs status
  keeps-read status six failed =
      record {
        statuses = (5, omega arith, sym six);
        answered = λ small. absurd (omega arith);
        refused = λ _ below. absurd (omega arith);
        read_fault = λ _. failed;
        write_fault = λ seven. absurd (omega arith);
        want_of_memory = λ eight. absurd (omega arith);
        untouched = elim failed.cause [
          | inl counted ↦ untouched_read outputs before after (line_of Read) counted failed.put
          | inr missing ↦ untouched_shelf outputs before after (line_of Read) missing.0 failed.put
        ];
        complete = λ none. elim failed.cause [
          | inl counted ↦ absurd (none.reads (omega (arith, ap (λ (shelf : ShelfState). shelf.read_faults) counted)))
          | inr missing ↦ explained_read before.shelf.files status missing.1 six
        ];
      }

  keeps-stopped : (status : ℕ) → status ≡ 7 → FailedToWrite Deserves before after → KeepsReply Deserves before after outputs status
  keeps-stopped status seven failed =
      record {
        statuses = (6, omega arith, sym seven);
        answered = λ small. absurd (omega arith);
        refused = λ _ below. absurd (omega arith);
        read_fault = λ six. absurd (omega arith);
        write_fault = λ _. failed;
        want_of_memory = λ eight. absurd (omega arith);
        untouched = rw (← outputs_named before.shelf.files failed.reply failed.deserved) (elim failed.stopped [
          | inl files ↦ untouched_stopped before after failed.reply.outputs files.0 files.1
          | inr lines ↦ untouched_written before after failed.reply.outputs failed.reply.lines lines.0 (inr lines.1)
        ]);
        complete = λ none. elim failed.stopped [
          | inl files ↦ absurd (none.writes (stopped_rises before.shelf after.shelf failed.reply.outputs files.0))
          | inr lines ↦ absurd (none.puts (omega (arith, ap (λ (sink : SinkState). sink.faults) lines.1.stands)))
        ];
      }

  keeps-memory : (status : ℕ) → status ≡ 8 → WantedMemory Deserves before after → KeepsReply Deserves before after outputs status
  keeps-memory status eight wanted =
      record {
        statuses = (7, omega arith, sym eight);
        answered = λ small. absurd (omega arith);
        refused = λ _ below. absurd (omega arith);
        read_fault = λ six. absurd (omega arith);
        write_fault = λ seven. absurd (omega arith);
        want_of_memory = λ _. wanted;
        untouched = untouched_shelf outputs before after (line_of Memory) wanted.unchanged wanted.put;
        complete = λ _. explained_memory before.shelf.files status eight;
      }

  -- a refusal, with its line or that of want of memory
  keeps-fault : (fault : Fault) (status : ℕ) → Contains statuses_of_commands (status_of fault) → 3 ≤ status_of fault → status_of fault ≤ 5 → (middle : ShelfState) → middle ≡ before.shelf → ForFiles before.shelf.files (λ files. Deserves files (Err fault)) → ((status ≡ status_of fault) × (after.shelf ≡ middle) × PutsAsFar before.out (line_of fault) after.out) ⊎ ((status ≡ 8) × (after.shelf ≡ middle) × PutsAsFar before.out (line_of Memory) after.out) → KeepsReply Deserves before after outputs status
  keeps-fault fault status known above below middle same deserved (inl put) =
      keeps-refused status (rw (put.0) known) (rw put.0 above) (rw put.0 below) (record { fault = fault; deserved = deserved; is = sym put.0; unchanged = put.1 ∙ same; put = put.2 })
  keeps-fault fault status known above below middle same deserved (inr wanting) =
      keeps-memory status wanting.0 (record { unchanged = wanting.1 ∙ same; put = wanting.2 })

  -- whatever was found and carried out
  pub keeps : (found : Result Reply Fault) (middle : ShelfState) (status : ℕ) → Finds Deserves found before.shelf middle → CarriesOut found (world middle before.out) after status → KeepsReply Deserves before after outputs status
  keeps (Ok reply) middle status found (inl whole) =
      keeps-answered status (record { reply = reply; deserved = found.1; is = sym whole.0; written = whole.1 ∙ ap (λ shelf. with_files shelf reply.outputs) found.0; put = whole.2 })
  keeps (Ok reply) middle status found (inr stopped) =
      keeps-stopped status stopped.0 (record {
        reply = reply;
        deserved = found.1;
        stopped = let P : ShelfState → Type 0 = λ shelf. (StopsInFiles shelf reply.outputs after.shelf × (after.out ≡ before.out)) ⊎ ((after.shelf ≡ with_files shelf reply.outputs) × StopsInText before.out reply.lines after.out) in subst P found.0 stopped.1;
      })
  keeps (Err Memory) middle status found (inl put) = keeps-memory status put.0 (record { unchanged = put.1 ∙ found; put = put.2 })
  keeps (Err Memory) middle status found (inr put) = keeps-memory status put.0 (record { unchanged = put.1 ∙ found; put = put.2 })
  keeps (Err Read) middle status (inl counted) put = keeps-read status put.0 (record { cause = inl (put.1 ∙ counted); put = put.2 })
  keeps (Err Read) middle status (inr missing) put = keeps-read status put.0 (record { cause = inr (put.1 ∙ missing.0, missing.1); put = put.2 })
  keeps (Err NetworkLong) middle status found carried = keeps-fault NetworkLong status (2, omega arith, refl) (omega arith) (omega arith) middle found.0 found.1 carried
  keeps (Err (Network fault)) middle status found carried = keeps-fault (Network fault) status (2, omega arith, refl) (omega arith) (omega arith) middle found.0 found.1 carried
  keeps (Err PlanLong) middle status found carried = keeps-fault PlanLong status (3, omega arith, refl) (omega arith) (omega arith) middle found.0 found.1 carried
  keeps (Err (Plan fault)) middle status found carried = keeps-fault (Plan fault) status (3, omega arith, refl) (omega arith) (omega arith) middle found.0 found.1 carried
  keeps (Err (TooLarge rows)) middle status found carried = keeps-fault (TooLarge rows) status (4, omega arith, refl) (omega arith) (omega arith) middle found.0 found.1 carried
