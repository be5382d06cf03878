-- That a run of `solve` which keeps its promise wrote a plan and a certificate, and printed what it found.
use Rattle.std.proofs.Common.{◌≡◌, ℕ, ◌≤◌, Bool, true, false, not, ◌||◌, cond, List, [], ◌∷◌, length, Option, Some, None, option_map, Result, Ok, Err, refl, ap, sym, subst, ◌∙◌}
use Rattle.std.proofs.lemmas.Bool.{and_parts}
use Rattle.std.specs.List.{list_any}
use Rattle.std.specs.Str.{bytes_eq}
use Rattle.std.specs.FinMap as map
use Rattle.shelf_io.specs.Told.{Files, ShelfState, with_taken}
use Rattle.shelf_io.specs.declared.file_map.File.{File}
use Rattle.shelf_io.proofs.Growing.{get_same}
use Rattle.shelf_io.proofs.NamedFiles.{get_inserted}
use Rattle.ct_base.specs.declared.net.Net.{Net}
use Rattle.named_net.specs.Naming.{IsNamed, Named}
use Rattle.cell_build.proofs.SpelledLaws.{spelled_is_named}
use Rattle.plan_file.specs.PlanText.{Spells}
use Rattle.plan_file.proofs.SpellLaws.{read_where_spells}
use Rattle.certificate_model.specs.Nodes.{nodes_of}
use Rattle.certificate_model.specs.Text.{Reads, certificate_text}
use Rattle.certificate_model.specs.declared.constants.TheConstants.{MAX_CERTIFICATE_BYTES}
use Rattle.certificate_model.proofs.VerdictLaws.{is_accepted}
use Rattle.solve_core.specs.Solved.{IsFound, IsSolved}
use Rattle.solve_core.specs.declared.solved.Solved.{Solved}
use Rattle.signal_cli.specs.Answers.{Follows, IsSearchReply, SolveGives, network_in, searchable_in, solve_reply, solved_text}
use Rattle.signal_cli.specs.Commands.{are_names, is_empty}
use Rattle.signal_cli.specs.Searches.{Holds, IsCertificateText, IsPlanText, IsPlanned, IsStateOf, PutsPlan}
use Rattle.signal_cli.specs.Worlds.{ForFiles, World, with_files}
use Rattle.signal_cli.specs.declared.fault.Fault.{Fault}
use Rattle.signal_cli.specs.declared.reply.Reply.{Reply}
use Rattle.signal_cli.proofs.BoundLaws.{network_spelled, safe_for, searchable_network}
use Rattle.signal_cli.proofs.Reading.{for_files}

pub certificate_is : (net : Net) (budget : ℕ) (solved : Solved) → IsSolved net budget solved → IsCertificateText net budget solved.delay solved.cert.bound solved.nodes (solved_text solved)
certificate_is net budget solved is =
    let same : certificate_text solved.cert.bound (nodes_of is.tree) ≡ solved_text solved = ap (certificate_text solved.cert.bound) (sym is.written) in
    let P : List ℕ → Type 0 = λ text. Reads text solved.cert.bound is.tree in
    let Q : List ℕ → Type 0 = λ text. length text ≤ MAX_CERTIFICATE_BYTES in
    let R : ℕ → Type 0 = λ nodes. nodes ≤ budget in
    record {
      accepted = record { tree = is.tree; reads = subst P same is.searched.text; certifies = is.searched.certified };
      fits = subst Q same is.searched.fits;
      least = is.searched.least;
      counted = is.nodes;
      within = subst R (sym is.nodes) is.searched.within;
      splits = is.searched.splits;
      earned = is.searched.earned;
    }

state_is : (net : Net) (budget : ℕ) (solved : Solved) → IsSolved net budget solved → IsStateOf net budget solved.delay solved.cert.bound solved.nodes solved.state
state_is net budget solved is = record {
  from_zero = is.searched.from_zero;
  to_delay = is.searched.to_delay;
  optimal = is.optimal;
  best = is.best;
  spent = is.still;
  enough = is.enough;
}

plan_is : (named : Named) (solved : Solved) (text : List ℕ) → IsNamed named → IsFound named.net solved.delay solved.plan → Spells named text solved.plan → IsPlanText named solved.delay text
plan_is named solved text fits found spells = record {
  read = solved.plan;
  spelled = read_where_spells named text solved.plan fits spells;
  admissible = found.admissible;
  is = found.delay_is;
  no_worse = found.named;
}

-- what a search found for the network in a file
planned_for : (files : Files) (network : List ℕ) (budget : ℕ) (named : Named) (solved : Solved) (text : List ℕ) → searchable_in files network budget ≡ Ok named → IsSolved named.net budget solved → Spells named text solved.plan → IsPlanned network budget solved.delay solved.cert.bound solved.nodes solved.state text (solved_text solved) files
unfolding safe_for
planned_for files network budget named solved text read is spells =
    let found : network_in files network ≡ Ok named = searchable_network files network budget named read in
    let spelled = network_spelled files network named found in
    let certificate = certificate_is named.net budget solved is in
    record {
      safe = safe_for files network named found (solved_text solved) solved.cert.bound (is_accepted named.net (solved_text solved) solved.cert.bound certificate.accepted);
      plan_text = plan_is named solved text (spelled_is_named spelled.0 named spelled.2) is.found spells;
      certificate_text = certificate;
      state_of = state_is named.net budget solved is;
    }

-- the files that a search writes
abbrev due_files : (plan certificate text : List ℕ) → Solved → List File
due_files plan certificate text solved = (solve_reply plan certificate text solved).outputs

-- what was read, and the reply that is due to it
pub followed : {X : Type 0} (made : Result X Fault) (IsDue : X → Reply → Type 0) (reply : Reply) → Follows made IsDue (Ok reply) → (x : X) × (made ≡ Ok x) × IsDue x reply
followed (Ok x) IsDue reply due = (x, refl, due)
followed (Err fault) IsDue reply due = absurd (cc)

pub solved_for : (told : Option Files) (network : List ℕ) (budget : ℕ) (plan certificate : List ℕ) (reply : Reply) → ForFiles told (λ files. SolveGives network budget plan certificate files (Ok reply)) → (named : Named) × IsSearchReply budget plan certificate named reply × ForFiles told (λ files. searchable_in files network budget ≡ Ok named)
solved_for None network budget plan certificate reply (files, gives) =
    let due = followed (searchable_in files network budget) (IsSearchReply budget plan certificate) reply gives in
    (due.0, due.2, (files, due.1))
solved_for (Some files) network budget plan certificate reply gives =
    let due = followed (searchable_in files network budget) (IsSearchReply budget plan certificate) reply gives in
    (due.0, due.2, due.1)

-- two names of outputs differ
pub names_differ : (network plan certificate : List ℕ) → are_names (network ∷ plan ∷ certificate ∷ []) ≡ true → bytes_eq plan certificate ≡ false
names_differ network plan certificate names =
    let outputs : List (List ℕ) = plan ∷ certificate ∷ [] in
    let behind = and_parts (not (list_any (bytes_eq network) outputs)) (are_names outputs) (and_parts (not (is_empty network)) _ names).1 in
    by_test (bytes_eq plan certificate) refl (and_parts (not (list_any (bytes_eq plan) (certificate ∷ []))) _ (and_parts (not (is_empty plan)) _ behind.1).1).0
  where
    by_test : (test : Bool) → bytes_eq plan certificate ≡ test → not (test || false) ≡ true → bytes_eq plan certificate ≡ false
    by_test false is differ = is
    by_test true is differ = absurd (cc)

-- files that are written one after the other, and what the first and the last of them holds then
first_stays : (told : Option Files) (plan certificate text other : List ℕ) → bytes_eq plan certificate ≡ false → Holds (option_map (λ (files : Files). map.insert files certificate other) (option_map (λ (files : Files). map.insert files plan text) told)) plan text
first_stays None plan certificate text other differ = tt
first_stays (Some files) plan certificate text other differ =
    get_inserted (map.insert files plan text) certificate other plan
    ∙ ap (λ (test : Bool). cond test (Some other) (map.get (map.insert files plan text) plan)) differ
    ∙ get_same files plan text

last_stands : (told : Option Files) (certificate other : List ℕ) → Holds (option_map (λ (files : Files). map.insert files certificate other) told) certificate other
last_stands None certificate other = tt
last_stands (Some files) certificate other = get_same files certificate other

pub puts_plan : (network : List ℕ) (budget : ℕ) (plan certificate : List ℕ) (before after : World) → bytes_eq plan certificate ≡ false → (reply : Reply) → after.shelf ≡ with_files before.shelf reply.outputs → after.out ≡ with_taken before.out reply.lines → (named : Named) → IsSearchReply budget plan certificate named reply → ForFiles before.shelf.files (λ files. searchable_in files network budget ≡ Ok named) → PutsPlan network budget plan certificate before after
puts_plan network budget plan certificate before after differ reply written put named due read =
    let solved : Solved = due.solved in
    let shelf : after.shelf ≡ with_files before.shelf (due_files plan certificate due.text solved) = written ∙ ap (λ (reply : Reply). with_files before.shelf reply.outputs) due.is in
    let P : ShelfState → Type 0 = λ shelf. Holds shelf.files plan due.text in
    let Q : ShelfState → Type 0 = λ shelf. Holds shelf.files certificate (solved_text solved) in
    let told : Option Files = option_map (λ (files : Files). map.insert files plan due.text) before.shelf.files in
    record {
      delay = solved.delay;
      bound = solved.cert.bound;
      nodes = solved.nodes;
      state = solved.state;
      put = put ∙ ap (λ (reply : Reply). with_taken before.out reply.lines) due.is;
      plan_text = due.text;
      plan_holds = subst P (sym shelf) (first_stays before.shelf.files plan certificate due.text (solved_text solved) differ);
      certificate_text = solved_text solved;
      certificate_holds = subst Q (sym shelf) (last_stands told certificate (solved_text solved));
      planned = for_files before.shelf.files (λ files. searchable_in files network budget ≡ Ok named) (IsPlanned network budget solved.delay solved.cert.bound solved.nodes solved.state due.text (solved_text solved))
          (λ files is. planned_for files network budget named solved due.text is due.searched due.spells) read;
    }
