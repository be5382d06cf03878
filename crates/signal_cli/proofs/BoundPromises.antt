-- That a run of `check`, `gap`, `solve`, `point` or `demo` which keeps its promise is sound, and one of `check`, `gap` or `point` exact.
use Rattle.std.proofs.Common.{◌≡◌, ℕ, ◌≤◌, ◌⊎◌, inl, inr, true, List, ◌++◌, Option, Some, None, Result, Ok, IfSome, refl, ap, sym, ◌∙◌, arith}
use Rattle.std.specs.Prelude.{ℤ}
use Rattle.shelf_io.specs.Told.{Files, with_taken}
use Rattle.ct_base.specs.declared.plan.Plan.{Plan}
use Rattle.traffic_model.specs.Runs.{IsAdmissiblePlan}
use Rattle.named_net.specs.Naming.{Named}
use Rattle.cell_build.proofs.SpelledLaws.{spelled_is_named}
use Rattle.plan_file.specs.Spelled.{spelled_plan}
use Rattle.plan_file.proofs.ReadLaws.{read_is_admissible}
use Rattle.certificate_model.specs.declared.constants.TheConstants.{MAX_CERTIFICATE_BYTES}
use Rattle.certificate_model.specs.declared.verdict.Verdict.{Verdict}
use Rattle.certificate_model.specs.declared.verdict.Verdict.TheVariants.{Accepted, Rejected}
use Rattle.certificate_model.specs.declared.verdict.Why.{Why}
use Rattle.signal_cli.specs.Accepted.{Decides, HoldsBoth, IsExact, PutsAccepted, PutsCompared}
use Rattle.signal_cli.specs.Answers.{CheckGives, Follows, GapGives, IsJudged, check_reply, gap_reply, network_in, sized_in, sized_planned_in, with_certificate}
use Rattle.signal_cli.specs.BoundLines.{accepted_lines, gap_lines}
use Rattle.signal_cli.specs.Bounds.{IsGap, IsSafe, delay_under}
use Rattle.signal_cli.specs.Commands.{Check, Command, Demo, Encode, Gap, Point, Program, Replay, Solve, Trace, are_names, inputs_of, outputs_of}
use Rattle.signal_cli.specs.Faults.{outcome_status, reply_status}
use Rattle.signal_cli.specs.Promises.{Keeps}
use Rattle.signal_cli.specs.Sound.{IsSound}
use Rattle.signal_cli.specs.Worlds.{ForFiles, NoneFailed, World}
use Rattle.signal_cli.specs.declared.fault.Fault.{Fault}
use Rattle.signal_cli.specs.declared.input.Content.{Content}
use Rattle.signal_cli.specs.declared.input.Planned.{Planned}
use Rattle.signal_cli.specs.declared.reply.Reply.{Reply}
use Rattle.signal_cli.proofs.BoundLaws.{accepted_shows, both_read, network_spelled, network_valid, plan_spelled, safe_for, sized_network, was_accepted, was_rejected}
use Rattle.signal_cli.proofs.DemoPromises.{puts_demo}
use Rattle.signal_cli.proofs.Followed.{IsRead, is_read, reply_is_due}
use Rattle.signal_cli.proofs.PointPromises.{decides_point, decides_point_at_8, puts_decoded}
use Rattle.signal_cli.proofs.Reading.{for_files}
use Rattle.signal_cli.proofs.SearchPromises.{names_differ, puts_plan, solved_for}

-- what `check` reads and what is due to it
abbrev IsChecked : Named × Content → Reply → Type 0
IsChecked read reply = IsJudged read.0.net check_reply read.1 reply

-- what `gap` reads and what is due to it
abbrev IsCompared : Planned × Content → Reply → Type 0
IsCompared read reply = IsJudged read.0.named.net (gap_reply read.0) read.1 reply

check_rejects : (number : ℕ) (why : Why) → reply_status (check_reply (Rejected number why)) ≡ 1
check_rejects number why = refl

check_accepts : (bound : ℤ) → reply_status (check_reply (Accepted bound)) ≡ 0
check_accepts bound = refl

gap_rejects : (planned : Planned) (number : ℕ) (why : Why) → reply_status (gap_reply planned (Rejected number why)) ≡ 1
gap_rejects planned number why = refl

gap_accepts : (planned : Planned) (bound : ℤ) → reply_status (gap_reply planned (Accepted bound)) ≡ 0
gap_accepts planned bound = refl

-- the plan that bytes spell for that network is admissible
plan_admissible : (files : Files) (network : List ℕ) (named : Named) (plan : Plan) → sized_in files network ≡ Ok named → (bytes : List ℕ) → spelled_plan named bytes ≡ Ok plan → IsAdmissiblePlan named.net plan
plan_admissible files network named plan sized bytes spelled =
    let of_file = network_spelled files network named (sized_network files network named sized) in
    read_is_admissible named bytes (Ok plan) (spelled_is_named of_file.0 named of_file.2) (inl (sym spelled))

-- a reply of `check` with status 0
record Checked (network : List ℕ) (files : Files) (reply : Reply) : Type 0 where
  bound : ℤ
  lines : reply.lines ≡ accepted_lines bound
  safe : IsSafe network bound files

checked : (network certificate : List ℕ) (files : Files) (reply : Reply) → CheckGives network certificate files (Ok reply) → reply_status reply ≡ 0 → Checked network files reply
checked network certificate files reply gives zero =
    let read = is_read MAX_CERTIFICATE_BYTES (sized_in files network) files certificate IsChecked reply gives in
    let was = was_accepted read.first.net check_reply check_rejects read.content reply read.due zero in
    record {
      bound = was.bound;
      lines = ap (λ (reply : Reply). reply.lines) was.answered;
      safe = safe_for files network read.first (sized_network files network read.first read.made_is) was.text was.bound was.verdict;
    }

-- a reply of `gap` with status 0
record Compared (network plan : List ℕ) (files : Files) (reply : Reply) : Type 0 where
  delay : ℕ
  bound : ℤ
  lines : reply.lines ≡ gap_lines delay bound
  safe : IsGap network plan delay bound files

compared : (network plan certificate : List ℕ) (files : Files) (reply : Reply) → GapGives network plan certificate files (Ok reply) → reply_status reply ≡ 0 → Compared network plan files reply
unfolding safe_for
compared network plan certificate files reply gives zero =
    let read = is_read MAX_CERTIFICATE_BYTES (sized_planned_in files network plan) files certificate IsCompared reply gives in
    let planned : Planned = read.first in
    let both = both_read files network plan planned read.made_is in
    let was = was_accepted planned.named.net (gap_reply planned) (gap_rejects planned) read.content reply read.due zero in
    let spelled = plan_spelled planned.named files plan planned.plan both.1 in
    record {
      delay = delay_under planned.named.net planned.plan;
      bound = was.bound;
      lines = ap (λ (reply : Reply). reply.lines) was.answered;
      safe = record {
        safe = safe_for files network planned.named (sized_network files network planned.named both.0) was.text was.bound was.verdict;
        bytes = spelled.0;
        there = spelled.1;
        read = planned.plan;
        spelled = spelled.2;
        admissible = plan_admissible files network planned.named planned.plan both.0 spelled.0 spelled.2;
        is = refl;
      };
    }

module _ (before after : World) where
  -- a bound that was put is safe
  puts_bound : (told : Option Files) (network : List ℕ) (reply : Reply) → after.out ≡ with_taken before.out reply.lines → ForFiles told (λ files. Checked network files reply) → (bound : ℤ) × (after.out ≡ with_taken before.out (accepted_lines bound)) × ForFiles told (IsSafe network bound)
  puts_bound None network reply put (files, done) = (done.bound, put ∙ ap (with_taken before.out) done.lines, (files, done.safe))
  puts_bound (Some files) network reply put done = (done.bound, put ∙ ap (with_taken before.out) done.lines, done.safe)

  puts_gap : (told : Option Files) (network plan : List ℕ) (reply : Reply) → after.out ≡ with_taken before.out reply.lines → ForFiles told (λ files. Compared network plan files reply) → (delay : ℕ) × (bound : ℤ) × (after.out ≡ with_taken before.out (gap_lines delay bound)) × ForFiles told (IsGap network plan delay bound)
  puts_gap None network plan reply put (files, done) = (done.delay, done.bound, put ∙ ap (with_taken before.out) done.lines, (files, done.safe))
  puts_gap (Some files) network plan reply put done = (done.delay, done.bound, put ∙ ap (with_taken before.out) done.lines, done.safe)

  -- what is decided of a certificate, be it read beside a network alone or beside a plan too
  module _ {X : Type 0} (made : Files → Result X Fault) (named_of : X → Named) (answer : X → Verdict → Reply) (network certificate : List ℕ) (of_file : (files : Files) (x : X) → made files ≡ Ok x → network_in files network ≡ Ok (named_of x)) (rejects : (x : X) (number : ℕ) (why : Why) → reply_status (answer x (Rejected number why)) ≡ 1) (accepts : (x : X) (bound : ℤ) → reply_status (answer x (Accepted bound)) ≡ 0) (Puts : ℤ → Type 0) (puts : (x : X) (bound : ℤ) (reply : Reply) → reply ≡ answer x (Accepted bound) → after.out ≡ with_taken before.out reply.lines → Puts bound) where
    -- the reply that was due to what was read
    abbrev IsDue : X × Content → Reply → Type 0
    IsDue read reply = IsJudged (named_of read.0).net (answer read.0) read.1 reply

    -- what the two files hold
    abbrev both_held : (files : Files) (reply : Reply) → IsRead MAX_CERTIFICATE_BYTES (made files) files certificate IsDue reply → HoldsBoth files network certificate
    both_held files reply read = record { named = named_of read.first; network_is = of_file files read.first read.made_is; content = read.content; content_is = read.content_is }

    decided : (told : Option Files) (status : ℕ) → (status ≤ 1 → (reply : Reply) × ForFiles told (λ files. Follows (with_certificate (made files) files certificate) IsDue (Ok reply)) × (reply_status reply ≡ status) × (after.out ≡ with_taken before.out reply.lines)) → (NoneFailed before after → IfSome told (λ files. (status ≡ 8) ⊎ ((outcome : Result Reply Fault) × Follows (with_certificate (made files) files certificate) IsDue outcome × (outcome_status outcome ≡ status)))) → IfSome told (λ files. Decides (made files) files network certificate before after Puts status)
    decided None status answered explained = tt
    decided (Some files) status answered explained = record {
      accepted = λ zero.
          let given = answered (omega (arith, zero)) in
          let read : IsRead MAX_CERTIFICATE_BYTES (made files) files certificate IsDue given.0 = is_read MAX_CERTIFICATE_BYTES (made files) files certificate IsDue given.0 given.1 in
          let was = was_accepted (named_of read.first).net (answer read.first) (rejects read.first) read.content given.0 read.due (given.2 ∙ zero) in
          (was.bound, both_held files given.0 read, puts read.first was.bound given.0 was.answered given.3, accepted_shows (named_of read.first).net (answer read.first) read.content given.0 was);
      rejected = λ one.
          let given = answered (omega (arith, one)) in
          let read : IsRead MAX_CERTIFICATE_BYTES (made files) files certificate IsDue given.0 = is_read MAX_CERTIFICATE_BYTES (made files) files certificate IsDue given.0 given.1 in
          (both_held files given.0 read, was_rejected (named_of read.first).net (answer read.first) (accepts read.first) read.content given.0 (network_valid files network (named_of read.first) (of_file files read.first read.made_is)) read.due (given.2 ∙ one));
      complete = λ none judged. elim (explained none) [
        | inl eight ↦ inr eight
        | inr deserved ↦ inl (rw (← deserved.2) (reply_is_due MAX_CERTIFICATE_BYTES (made files) files certificate IsDue deserved.0 judged.made judged.content judged.made_is judged.content_is deserved.1))
      ];
    }

-- what was read is the network in the file
sized_of : (network : List ℕ) (files : Files) (named : Named) → sized_in files network ≡ Ok named → network_in files network ≡ Ok named
sized_of network files named is = sized_network files network named is

planned_of : (network plan : List ℕ) (files : Files) (planned : Planned) → sized_planned_in files network plan ≡ Ok planned → network_in files network ≡ Ok planned.named
planned_of network plan files planned is = sized_network files network planned.named (both_read files network plan planned is).0

-- a run that keeps what its command promises is sound
pub is_sound : (command : Command) (before after : World) (status : ℕ) → are_names (inputs_of command ++ outputs_of command) ≡ true → Keeps (Some command) before after status → IsSound (Some command) before after status
is_sound (Replay network plan) before after status names keeps = tt
is_sound (Trace network plan table) before after status names keeps = tt
is_sound (Program network text) before after status names keeps = tt
is_sound (Encode network plan text) before after status names keeps = tt
is_sound (Point network point) before after status names keeps = λ zero.
    let answered = keeps.answered (omega (arith, zero)) in
    puts_decoded before after network point answered.reply answered.put (answered.is ∙ zero) answered.deserved
is_sound (Check network certificate) before after status names keeps = λ zero.
    let answered = keeps.answered (omega (arith, zero)) in
    let done = puts_bound before after before.shelf.files network answered.reply answered.put
    (for_files before.shelf.files (λ files. CheckGives network certificate files (Ok answered.reply)) (λ files. Checked network files answered.reply) (λ files gives. checked network certificate files answered.reply gives (answered.is ∙ zero)) answered.deserved) in
    record { bound = done.0; put = done.1; safe = done.2 }
is_sound (Gap network plan certificate) before after status names keeps = λ zero.
    let answered = keeps.answered (omega (arith, zero)) in
    let done = puts_gap before after before.shelf.files network plan answered.reply answered.put
    (for_files before.shelf.files (λ files. GapGives network plan certificate files (Ok answered.reply)) (λ files. Compared network plan files answered.reply) (λ files gives. compared network plan certificate files answered.reply gives (answered.is ∙ zero)) answered.deserved) in
    record { delay = done.0; bound = done.1; put = done.2; safe = done.3 }
is_sound (Solve network budget plan certificate) before after status names keeps = λ zero.
    let answered = keeps.answered (omega (arith, zero)) in
    let solved = solved_for before.shelf.files network budget plan certificate answered.reply answered.deserved in
    puts_plan network budget plan certificate before after (names_differ network plan certificate names) answered.reply answered.written answered.put solved.0 solved.1 solved.2
is_sound (Demo number) before after status names keeps = λ zero.
    let answered = keeps.answered (omega (arith, zero)) in
    puts_demo number before after answered.reply answered.deserved answered.put

-- and exact
pub is_exact : (command : Option Command) (before after : World) (status : ℕ) → Keeps command before after status → IsExact command before after status
unfolding IsExact
is_exact None before after status keeps = tt
is_exact (Some (Replay network plan)) before after status keeps = tt
is_exact (Some (Trace network plan table)) before after status keeps = tt
is_exact (Some (Program network text)) before after status keeps = tt
is_exact (Some (Encode network plan text)) before after status keeps = tt
is_exact (Some (Solve network budget plan certificate)) before after status keeps = tt
is_exact (Some (Point network point)) before after status keeps =
    decides_point before after before.shelf.files network point status
    (λ small. let answered = keeps.answered small in (answered.reply, answered.deserved, answered.is)) keeps.complete
is_exact (Some (Demo number)) before after status keeps = tt
is_exact (Some (Check network certificate)) before after status keeps =
    decided before after (λ files. sized_in files network) (λ (named : Named). named) (λ (named : Named). check_reply) network certificate (sized_of network) (λ (named : Named). check_rejects) (λ (named : Named). check_accepts) (PutsAccepted before after)
    (λ named bound reply is put. put ∙ ap (λ (reply : Reply). with_taken before.out reply.lines) is) before.shelf.files status
    (λ small. let answered = keeps.answered small in (answered.reply, answered.deserved, answered.is, answered.put)) keeps.complete
is_exact (Some (Gap network plan certificate)) before after status keeps =
    decided before after (λ files. sized_planned_in files network plan) (λ (planned : Planned). planned.named) gap_reply network certificate (planned_of network plan) gap_rejects gap_accepts (PutsCompared before after)
    (λ planned bound reply is put. (delay_under planned.named.net planned.plan, put ∙ ap (λ (reply : Reply). with_taken before.out reply.lines) is)) before.shelf.files status
    (λ small. let answered = keeps.answered small in (answered.reply, answered.deserved, answered.is, answered.put)) keeps.complete

-- A run that ends for want of memory has put no bound and decided nothing.
pub sound_at_8 : (command : Option Command) (before after : World) → IsSound command before after 8
sound_at_8 None before after = tt
sound_at_8 (Some (Replay network plan)) before after = tt
sound_at_8 (Some (Trace network plan table)) before after = tt
sound_at_8 (Some (Program network text)) before after = tt
sound_at_8 (Some (Encode network plan text)) before after = tt
sound_at_8 (Some (Point network point)) before after = λ zero. absurd (omega (arith, zero))
sound_at_8 (Some (Check network certificate)) before after = λ zero. absurd (omega (arith, zero))
sound_at_8 (Some (Gap network plan certificate)) before after = λ zero. absurd (omega (arith, zero))
sound_at_8 (Some (Solve network budget plan certificate)) before after = λ zero. absurd (omega (arith, zero))
sound_at_8 (Some (Demo number)) before after = λ zero. absurd (omega (arith, zero))

decided_at_8 : {X : Type 0} (told : Option Files) (made : Files → Result X Fault) (network certificate : List ℕ) (before after : World) (Puts : ℤ → Type 0) → IfSome told (λ files. Decides (made files) files network certificate before after Puts 8)
decided_at_8 None made network certificate before after Puts = tt
decided_at_8 (Some files) made network certificate before after Puts = record {
  accepted = λ zero. absurd (omega (arith, zero));
  rejected = λ one. absurd (omega (arith, one));
  complete = λ none judged. inr refl;
}

pub exact_at_8 : (command : Option Command) (before after : World) → IsExact command before after 8
unfolding IsExact
exact_at_8 None before after = tt
exact_at_8 (Some (Replay network plan)) before after = tt
exact_at_8 (Some (Trace network plan table)) before after = tt
exact_at_8 (Some (Program network text)) before after = tt
exact_at_8 (Some (Encode network plan text)) before after = tt
exact_at_8 (Some (Solve network budget plan certificate)) before after = tt
exact_at_8 (Some (Point network point)) before after = decides_point_at_8 before after before.shelf.files network point
exact_at_8 (Some (Demo number)) before after = tt
exact_at_8 (Some (Check network certificate)) before after = decided_at_8 before.shelf.files (λ files. sized_in files network) network certificate before after (PutsAccepted before after)
exact_at_8 (Some (Gap network plan certificate)) before after = decided_at_8 before.shelf.files (λ files. sized_planned_in files network plan) network certificate before after (PutsCompared before after)
