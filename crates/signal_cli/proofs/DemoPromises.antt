-- That a run of `demo` which keeps its promise put a plan of the generated network, and a bound that is safe.
use Rattle.std.proofs.Common.{◌≡◌, ℕ, Bool, true, false, nat_lt, List, [], ◌++◌, length, Ok, refl, ap, subst, ◌∙◌}
use Rattle.refusals.specs.Faults.{where_so}
use Rattle.shelf_io.specs.Told.{with_taken}
use Rattle.ct_base.specs.Validity.{IsValid}
use Rattle.ct_base.specs.declared.net.Net.{Net}
use Rattle.named_net.specs.Naming.{Named}
use Rattle.sparse_program.specs.declared.limits.TheConstants.{MAX_ROWS}
use Rattle.program_model.specs.Points.{program_of, rows}
use Rattle.cell_build.specs.Spelled.{spelled_network}
use Rattle.cell_build.proofs.SpelledLaws.{spelled_is_named}
use Rattle.plan_file.proofs.SpellLaws.{read_where_spells}
use Rattle.lo_program.specs.Compiled.{size_faults}
use Rattle.lo_program.specs.declared.fault.CompileFault.TheVariants as uncompiled
use Rattle.limits.specs.declared.TheConstants.{MAX_FILE_BYTES}
use Rattle.certificate_model.specs.Verdicts.{IsVerdict}
use Rattle.certificate_model.specs.declared.verdict.Verdict.{Verdict}
use Rattle.certificate_model.specs.declared.verdict.Verdict.TheVariants.{Accepted, Rejected}
use Rattle.certificate_model.specs.declared.verdict.Why.{Why}
use Rattle.certificate_model.proofs.VerdictLaws.{accepted_is_safe, is_accepted, one_verdict}
use Rattle.generated_nets.specs.Generated.{generated_text}
use Rattle.solve_core.specs.Solved.{IsSolved, solve_faults}
use Rattle.solve_core.specs.declared.fault.SolveFault.{SolveFault}
use Rattle.solve_core.specs.declared.fault.SolveFault.TheVariants as unsolved
use Rattle.solve_core.specs.declared.solved.Solved.{Solved}
use Rattle.signal_cli.specs.Answers.{DemoGives, IsDemoReply, content_of, demo_budget, network_from, searchable_text, solved_text}
use Rattle.signal_cli.specs.Demos.{PutsDemo}
use Rattle.signal_cli.specs.Worlds.{ForFiles, World}
use Rattle.signal_cli.specs.declared.reply.Reply.{Reply}
use Rattle.signal_cli.proofs.BoundLaws.{content_spelled, searchable_made}
use Rattle.signal_cli.proofs.Making.{whatever_files}
use Rattle.signal_cli.proofs.SearchPromises.{certificate_is, followed}

-- the text of the certificate that a search found is accepted
pub solved_accepted : (net : Net) (budget : ℕ) (solved : Solved) → IsSolved net budget solved → IsVerdict net (solved_text solved) (Accepted solved.cert.bound)
solved_accepted net budget solved is = is_accepted net (solved_text solved) solved.cert.bound (certificate_is net budget solved is).accepted

-- and so no other verdict comes of it
pub never_rejected : (net : Net) (budget : ℕ) (solved : Solved) (text : List ℕ) (verdict : Verdict) (line : ℕ) (why : Why) → IsValid net → IsSolved net budget solved → text ≡ solved_text solved → verdict ≡ Rejected line why → IsVerdict net text verdict → ⊥
never_rejected net budget solved text verdict line why valid is written rejected judged =
    let P : List ℕ → Type 0 = λ text. IsVerdict net text verdict in
    let same : Accepted solved.cert.bound ≡ verdict = one_verdict net (solved_text solved) (Accepted solved.cert.bound) verdict valid (solved_accepted net budget solved is) (subst P written judged) in
    absurd (cc)

-- a network whose rows are few enough for a budget has no more than a program holds
pub searchable_is_sized : (net : Net) (budget : ℕ) → solve_faults net budget ≡ [] → size_faults net ≡ []
unfolding solve_faults size_faults
searchable_is_sized net budget none = by_test (nat_lt MAX_ROWS (length (rows net))) _ none
  where
    by_test : (large : Bool) (others : List SolveFault) → where_so large (unsolved.TooLarge (length (rows net))) ++ others ≡ [] → where_so large (uncompiled.TooLarge (length (rows net))) ≡ []
    by_test true others none = absurd (cc)
    by_test false others none = refl

-- the network that was searched is the one that the text spells
text_spelled : (text : List ℕ) (budget : ℕ) (named : Named) → searchable_text text budget ≡ Ok named → spelled_network text ≡ Ok named
text_spelled text budget named is =
    content_spelled text named (searchable_made (network_from (content_of MAX_FILE_BYTES text)) budget named is)

pub puts_demo : (number : ℕ) (before after : World) (reply : Reply) → ForFiles before.shelf.files (λ files. DemoGives number (Ok reply)) → after.out ≡ with_taken before.out reply.lines → PutsDemo number before after
puts_demo number before after reply deserved put =
    let gives : DemoGives number (Ok reply) = whatever_files before.shelf.files (DemoGives number (Ok reply)) deserved in
    let due = followed (searchable_text (generated_text number) demo_budget) (IsDemoReply number) reply gives in
    let named : Named = due.0 in
    let found : IsDemoReply number named reply = due.2 in
    let spelled : spelled_network (generated_text number) ≡ Ok named = text_spelled (generated_text number) demo_budget named due.1 in
    let is_named = spelled_is_named (generated_text number) named spelled in
    record {
      named = named;
      spelled = spelled;
      rows = length (program_of named.net).rows;
      columns = length (program_of named.net).columns;
      delay = found.solved.delay;
      bound = found.solved.cert.bound;
      nodes = found.solved.nodes;
      state = found.solved.state;
      text = found.text;
      put = put ∙ ap (λ (reply : Reply). with_taken before.out reply.lines) found.is;
      plan = found.solved.plan;
      plan_is = read_where_spells named found.text found.solved.plan is_named found.spells;
      admissible = found.searched.found.admissible;
      delay_is = found.searched.found.delay_is;
      least = λ other admissible. accepted_is_safe named.net (solved_text found.solved) found.solved.cert.bound other is_named.valid found.accepted admissible;
    }
