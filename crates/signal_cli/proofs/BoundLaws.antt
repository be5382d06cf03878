-- What the reply that is due to a certificate, or to a search, says of its bound.
use Rattle.std.proofs.Common.{◌≡◌, ℕ, Bool, true, false, if◌then◌else◌, nat_lt, List, [], ◌∷◌, length, Option, Some, None, Result, Ok, Err, refl, ap, sym, subst, ◌∙◌, arith}
use Rattle.std.specs.Prelude.{ℤ}
use Rattle.limits.specs.declared.TheConstants.{MAX_FILE_BYTES}
use Rattle.shelf_io.specs.Told.{Files, bytes_of}
use Rattle.ct_base.specs.Validity.{IsValid}
use Rattle.ct_base.specs.declared.net.Net.{Net}
use Rattle.ct_base.specs.declared.plan.Plan.{Plan}
use Rattle.named_net.specs.Naming.{Named}
use Rattle.cell_build.specs.Spelled.{spelled_network}
use Rattle.cell_build.specs.declared.network_fault.NetworkFault.{NetworkFault}
use Rattle.cell_build.proofs.SpelledLaws.{spelled_is_named}
use Rattle.plan_file.specs.Spelled.{spelled_plan}
use Rattle.plan_file.specs.declared.fault.PlanFault.{PlanFault}
use Rattle.refusals.specs.Faults.{unless}
use Rattle.lo_program.specs.Compiled.{size_faults}
use Rattle.lo_program.specs.declared.fault.CompileFault.{CompileFault}
use Rattle.certificate_model.specs.Verdicts.{IsVerdict}
use Rattle.certificate_model.specs.declared.verdict.Verdict.{Verdict}
use Rattle.certificate_model.specs.declared.verdict.Verdict.TheVariants.{Accepted, Rejected}
use Rattle.certificate_model.specs.declared.verdict.Why.{Why}
use Rattle.certificate_model.proofs.VerdictLaws.{accepted_is, accepted_is_safe, is_accepted, one_verdict}
use Rattle.solve_core.specs.Solved.{solve_faults}
use Rattle.solve_core.specs.declared.fault.SolveFault.{SolveFault}
use Rattle.signal_cli.specs.Accepted.{Shows}
use Rattle.signal_cli.specs.Answers.{◌>>=◌, IsJudged, content_of, found, network, network_as, network_from, network_in, plan, plan_from, plan_in, planned_as, searchable, searchable_as, searchable_in, sized, sized_as, sized_in, sized_planned_in, with_plan}
use Rattle.signal_cli.specs.Bounds.{IsSafe}
use Rattle.signal_cli.specs.Faults.{reply_status}
use Rattle.signal_cli.specs.declared.fault.Fault.{Fault}
use Rattle.signal_cli.specs.declared.input.Content.{Content}
use Rattle.signal_cli.specs.declared.input.Content.TheVariants.{TooLong, Whole}
use Rattle.signal_cli.specs.declared.input.Planned.{Planned}
use Rattle.signal_cli.specs.declared.reply.Reply.{Reply}

-- what became of bytes as an answer of the program is a network where they spell it
network_made : (made : Result Named NetworkFault) (named : Named) → network_as made ≡ Ok named → made ≡ Ok named
network_made (Ok first) named is =
    let same : first ≡ named = cc in
    ap (λ (named : Named). Ok named) same
network_made (Err fault) named is = absurd (cc)

network_bytes : (bytes : List ℕ) (named : Named) → network bytes ≡ Ok named → spelled_network bytes ≡ Ok named
unfolding network
network_bytes bytes named is = network_made (spelled_network bytes) named is

-- what a file holds with some bytes is a network where they spell it
pub content_spelled : (bytes : List ℕ) (named : Named) → network_from (content_of MAX_FILE_BYTES bytes) ≡ Ok named → spelled_network bytes ≡ Ok named
content_spelled bytes named is = by_length (nat_lt MAX_FILE_BYTES (length bytes)) is
  where
    by_length : (long : Bool) → network_from (if long then TooLong else Whole bytes) ≡ Ok named → spelled_network bytes ≡ Ok named
    by_length true is = absurd (cc)
    by_length false is = network_bytes bytes named is

-- the network in a file is the one that its bytes spell
pub network_spelled : (files : Files) (name : List ℕ) (named : Named) → network_in files name ≡ Ok named → (bytes : List ℕ) × (bytes_of files name ≡ Some bytes) × (spelled_network bytes ≡ Ok named)
network_spelled files name named is = by_bytes (bytes_of files name) refl is
  where
    by_bytes : (seen : Option (List ℕ)) → bytes_of files name ≡ seen → (found MAX_FILE_BYTES seen >>= network_from) ≡ Ok named → (bytes : List ℕ) × (bytes_of files name ≡ Some bytes) × (spelled_network bytes ≡ Ok named)
    by_bytes None there is = absurd (cc)
    by_bytes (Some bytes) there is = (bytes, there, content_spelled bytes named is)

-- the network in a file is valid
pub network_valid : (files : Files) (name : List ℕ) (named : Named) → network_in files name ≡ Ok named → IsValid named.net
network_valid files name named is =
    let spelled = network_spelled files name named is in
    (spelled_is_named spelled.0 named spelled.2).valid

-- a network whose size was judged is the one in the file
pub sized_network : (files : Files) (name : List ℕ) (named : Named) → sized_in files name ≡ Ok named → network_in files name ≡ Ok named
sized_network files name named is = by_found (network_in files name) refl is
  where
    by_faults : (first : Named) (faults : List CompileFault) → sized_as (unless faults first) ≡ Ok named → first ≡ named
    by_faults first [] is = cc
    by_faults first (fault ∷ faults) is = absurd (cc)

    by_found : (made : Result Named Fault) → network_in files name ≡ made → (made >>= sized) ≡ Ok named → network_in files name ≡ Ok named
    by_found (Err fault) found is = absurd (cc)
    by_found (Ok first) found is = found ∙ ap (λ (named : Named). Ok named) (by_faults first (size_faults first.net) is)

-- a network whose size was judged for a budget is the one that was judged
pub searchable_made : (made : Result Named Fault) (budget : ℕ) (named : Named) → (made >>= searchable budget) ≡ Ok named → made ≡ Ok named
searchable_made (Err fault) budget named is = absurd (cc)
searchable_made (Ok first) budget named is = ap (λ (named : Named). Ok named) (by_faults (solve_faults first.net budget) is)
  where
    by_faults : (faults : List SolveFault) → searchable_as (unless faults first) ≡ Ok named → first ≡ named
    by_faults [] is = cc
    by_faults (fault ∷ faults) is = absurd (cc)

-- and so is one whose size was judged for a budget
pub searchable_network : (files : Files) (name : List ℕ) (budget : ℕ) (named : Named) → searchable_in files name budget ≡ Ok named → network_in files name ≡ Ok named
searchable_network files name budget named is = searchable_made (network_in files name) budget named is

-- the bound of an accepted text is safe for the network in the file
unfoldable pub safe_for : (files : Files) (network : List ℕ) (named : Named) → network_in files network ≡ Ok named → (text : List ℕ) (bound : ℤ) → IsVerdict named.net text (Accepted bound) → IsSafe network bound files
safe_for files network named found text bound verdict =
    let spelled = network_spelled files network named found in
    record {
      bytes = spelled.0;
      there = spelled.1;
      named = named;
      spelled = spelled.2;
      least = λ plan admissible. accepted_is_safe named.net text bound plan (network_valid files network named found) verdict admissible;
    }

-- what became of a text as an answer of the program is a plan where it spells it
plan_made : (made : Result Plan PlanFault) (read : Plan) → planned_as made ≡ Ok read → made ≡ Ok read
plan_made (Ok first) read is =
    let same : first ≡ read = cc in
    ap (λ (read : Plan). Ok read) same
plan_made (Err fault) read is = absurd (cc)

plan_bytes : (named : Named) (bytes : List ℕ) (read : Plan) → plan named bytes ≡ Ok read → spelled_plan named bytes ≡ Ok read
unfolding plan
plan_bytes named bytes read is = plan_made (spelled_plan named bytes) read is

-- the plan in a file is the one that its bytes spell
pub plan_spelled : (named : Named) (files : Files) (name : List ℕ) (read : Plan) → plan_in named files name ≡ Ok read → (bytes : List ℕ) × (bytes_of files name ≡ Some bytes) × (spelled_plan named bytes ≡ Ok read)
plan_spelled named files name read is = by_bytes (bytes_of files name) refl is
  where
    by_length : (bytes : List ℕ) (long : Bool) → plan_from named (if long then TooLong else Whole bytes) ≡ Ok read → spelled_plan named bytes ≡ Ok read
    by_length bytes true is = absurd (cc)
    by_length bytes false is = plan_bytes named bytes read is

    by_bytes : (seen : Option (List ℕ)) → bytes_of files name ≡ seen → (found MAX_FILE_BYTES seen >>= plan_from named) ≡ Ok read → (bytes : List ℕ) × (bytes_of files name ≡ Some bytes) × (spelled_plan named bytes ≡ Ok read)
    by_bytes None there is = absurd (cc)
    by_bytes (Some bytes) there is = (bytes, there, by_length bytes (nat_lt MAX_FILE_BYTES (length bytes)) is)

-- a network and a plan that were read are those of the two files
pub both_read : (files : Files) (network plan : List ℕ) (planned : Planned) → sized_planned_in files network plan ≡ Ok planned → (sized_in files network ≡ Ok planned.named) × (plan_in planned.named files plan ≡ Ok planned.plan)
both_read files network plan planned is = by_named (sized_in files network) refl is
  where
    by_plan : (named : Named) → sized_in files network ≡ Ok named → (seen : Result Plan Fault) → plan_in named files plan ≡ seen → (seen >>= (λ (plan : Plan). Ok (record { named = named; plan = plan }))) ≡ Ok planned → (sized_in files network ≡ Ok planned.named) × (plan_in planned.named files plan ≡ Ok planned.plan)
    by_plan named found (Err fault) seen is = absurd (cc)
    by_plan named found (Ok read) seen is =
        let first : Planned = record { named = named; plan = read } in
        let same : first ≡ planned = cc in
        let P : Planned → Type 0 = λ planned. (sized_in files network ≡ Ok planned.named) × (plan_in planned.named files plan ≡ Ok planned.plan) in
        subst P same (found, seen)

    by_named : (made : Result Named Fault) → sized_in files network ≡ made → with_plan made files plan ≡ Ok planned → (sized_in files network ≡ Ok planned.named) × (plan_in planned.named files plan ≡ Ok planned.plan)
    by_named (Err fault) found is = absurd (cc)
    by_named (Ok named) found is = by_plan named found (plan_in named files plan) refl is

-- a certificate whose bound was accepted
pub record WasAccepted (net : Net) (answer : Verdict → Reply) (content : Content) (reply : Reply) : Type 0 where
  pub bound : ℤ
  pub text : List ℕ
  pub whole : content ≡ Whole text
  pub verdict : IsVerdict net text (Accepted bound)
  pub answered : reply ≡ answer (Accepted bound)

-- a reply with status 0 is to an accepted bound
pub was_accepted : (net : Net) (answer : Verdict → Reply) → ((number : ℕ) (why : Why) → reply_status (answer (Rejected number why)) ≡ 1) → (content : Content) (reply : Reply) → IsJudged net answer content reply → reply_status reply ≡ 0 → WasAccepted net answer content reply
was_accepted net answer rejects TooLong reply is zero =
    let one : reply_status reply ≡ 1 = ap reply_status is in
    absurd (omega (arith, one, zero))
was_accepted net answer rejects (Whole bytes) reply (verdict, judged, is) zero = by_verdict verdict judged is
  where
    by_verdict : (verdict : Verdict) → IsVerdict net bytes verdict → reply ≡ answer verdict → WasAccepted net answer (Whole bytes) reply
    by_verdict (Accepted bound) judged is = record { bound = bound; text = bytes; whole = refl; verdict = judged; answered = is }
    by_verdict (Rejected number why) judged is =
        let one : reply_status reply ≡ 1 = ap reply_status is ∙ rejects number why in
        absurd (omega (arith, one, zero))

-- an accepted text shows its bound
pub accepted_shows : (net : Net) (answer : Verdict → Reply) (content : Content) (reply : Reply) → (was : WasAccepted net answer content reply) → Shows net content was.bound
accepted_shows net answer content reply was =
    let P : Content → Type 0 = λ content. Shows net content was.bound in
    subst P (sym was.whole) (accepted_is net was.text was.bound was.verdict)

-- a reply with status 1 is to a certificate that shows no bound
pub was_rejected : (net : Net) (answer : Verdict → Reply) → ((bound : ℤ) → reply_status (answer (Accepted bound)) ≡ 0) → (content : Content) (reply : Reply) → IsValid net → IsJudged net answer content reply → reply_status reply ≡ 1 → (bound : ℤ) → ¬ Shows net content bound
was_rejected net answer accepts TooLong reply valid is one bound shows = shows
was_rejected net answer accepts (Whole bytes) reply valid (verdict, judged, is) one bound shows = by_verdict verdict judged is
  where
    by_verdict : (verdict : Verdict) → IsVerdict net bytes verdict → reply ≡ answer verdict → ⊥
    by_verdict (Accepted other) judged is =
        let zero : reply_status reply ≡ 0 = ap reply_status is ∙ accepts other in
        omega (arith, one, zero)
    by_verdict (Rejected number why) judged is =
        let same : Accepted bound ≡ Rejected number why = one_verdict net bytes (Accepted bound) (Rejected number why) valid (is_accepted net bytes bound shows) judged in
        absurd (cc)
