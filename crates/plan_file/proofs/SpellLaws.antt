-- A text spells a plan exactly where the pass over its lines answers the plan, and a plan has one text.
use Rattle.std.proofs.Common.{◌≡◌, ℕ, zero, suc, ◌+◌, ◌<◌, ◌≤◌, true, false, List, [], ◌∷◌, ◌++◌, length, map, get_or, take, Ok, refl, sym, ap, subst, ◌∙◌, arith, add-one}
use Rattle.std.specs.Prelude.{not, ◌&&◌, nat_lt}
use Rattle.std.specs.Str.{bytes_eq}
use Rattle.std.proofs.lemmas.Bool.{and_from, le-ltb, lt-ltb}
use Rattle.std.proofs.lemmas.List.{append_assoc, append-nil, ext_get_or, get_or_at, length-append, length_push, length-take-le, take_all, take_more}
use Rattle.std.proofs.lemmas.Slice.Eq.{bytes_eq-Decides}
use Rattle.listed.specs.Below.{join_below}
use Rattle.refusals.specs.Faults.{unless, where_so}
use Rattle.listed.proofs.JoinLaws.{join_none}
use Rattle.ct_base.specs.Access.{signal_of}
use Rattle.ct_base.specs.Validity.{IsSignal}
use Rattle.ct_base.specs.declared.plan.Letter.{Letter}
use Rattle.ct_base.specs.declared.plan.Plan.{Plan}
use Rattle.ct_base.specs.declared.signal.Signal.{Signal}
use Rattle.traffic_model.specs.Runs.{IsAdmissiblePlan, Run, word_of}
use Rattle.phase_rules.specs.Expansion.{expanded, faults_at, run_by}
use Rattle.phase_rules.proofs.PhaseLaws.{expanded_is_admissible, expanded_length, expanded_once}
use Rattle.named_net.specs.Naming.{AreSignalNames, IsNamed, Named, NameTable, signal_names_at}
use Rattle.named_net.specs.declared.names.SignalNames.{SignalNames}
use Rattle.plan_file.specs.Lines.{Line, End, Nothing, lines_in}
use Rattle.plan_file.specs.PlanText.{Spells, runs_at, text_by}
use Rattle.plan_file.specs.Refusals.{run_named, signal_faults}
use Rattle.plan_file.specs.inner.Scan.{Progress, after_end, and_then, at_first, begun, closed, scan, scanned, whole, with_word}
use Rattle.plan_file.specs.Spelled.{spelled_plan}
use Rattle.plan_file.specs.declared.fault.PlanFault.TheVariants.{Run as RunAt, Signal as SignalAt, Missing}
use Rattle.plan_file.proofs.BlockLaws.{IsBlock, IsKnown, phase_number-at, plan_is_good, plan_text_is}
use Rattle.plan_file.proofs.JudgedLaws.{own_known}
use Rattle.plan_file.proofs.LineLaws.{no_lines, read_back, text_is}
use Rattle.plan_file.proofs.PassLaws.{all_judged, scanned_lines, spelled_is_scanned}
use Rattle.plan_file.proofs.RunLaws.{AreFine, expanded_is_fine, faults_at-front}
use Rattle.plan_file.proofs.TailLaws.{lines_tail}
use Rattle.plan_file.proofs.Written.{AreOf, lines_at, lines_below, plan_lines, run_line, text_of}

-- ---- a text and its lines

-- blocks that become words are blocks of known runs
are_blocks : (named : Named) (blocks : List (List Run)) (plan : Plan) → IsNamed named → length plan.words ≡ length named.net.signals →
    ((s : ℕ) → s < length plan.words → expanded (signal_of named.net.signals s) (runs_at blocks s) named.net.steps ≡ Ok (word_of plan s)) →
    (s : ℕ) → s < length named.net.signals → IsBlock (signal_names_at named.names s) (runs_at blocks s)
are_blocks named blocks plan valid words each s within =
    let names : AreSignalNames (signal_of named.net.signals s) (signal_names_at named.names s) = valid.each_signal s (let count = valid.one_per_signal in omega arith) in
    record {
      name = names.name;
      phases = names.phases;
      differ = names.differ;
      known = own_known named s (runs_at blocks s) valid within (expanded_is_fine (signal_of named.net.signals s) (runs_at blocks s) named.net.steps (word_of plan s) (each s (omega arith)));
    }

-- a text of a plan's lines spells it
pub spells_from_lines : (named : Named) (text : List ℕ) (plan : Plan) → IsNamed named → AreOf named (lines_in text) plan → Spells named text plan
spells_from_lines named text plan valid are =
    let n : ℕ = length named.net.signals in
    record {
      blocks = are.blocks;
      one_per_signal = are.one_per_signal;
      spelled = text_is text (plan_lines named.names are.blocks n) are.written (plan_is_good named.names are.blocks n (are_blocks named are.blocks plan valid are.words are.each))
          ∙ plan_text_is named.names are.blocks n valid.one_per_signal;
      words = are.words;
      each = are.each;
    }

-- and the other way round
pub lines_from_spells : (named : Named) (text : List ℕ) (plan : Plan) → IsNamed named → Spells named text plan → AreOf named (lines_in text) plan
lines_from_spells named text plan valid spells =
    let n : ℕ = length named.net.signals in
    let lines : List Line = plan_lines named.names spells.blocks n in
    record {
      blocks = spells.blocks;
      one_per_signal = spells.one_per_signal;
      written = ap lines_in (spells.spelled ∙ sym (plan_text_is named.names spells.blocks n valid.one_per_signal) ∙ sym (append-nil (text_of lines)))
          ∙ read_back lines [] (plan_is_good named.names spells.blocks n (are_blocks named spells.blocks plan valid spells.words spells.each))
          ∙ ap (λ last. lines ++ last) no_lines;
      words = spells.words;
      each = spells.each;
    }

-- ---- the pass over the lines of a plan

-- the lines of m blocks from block k on
lines_from : NameTable → List (List Run) → ℕ → ℕ → List Line
lines_from names blocks k zero = []
lines_from names blocks k (suc m) = lines_at names blocks k ++ lines_from names blocks (suc k) m

below_from : (names : NameTable) (blocks : List (List Run)) (k m : ℕ) → lines_below names blocks (k + m) ≡ lines_below names blocks k ++ lines_from names blocks k m
unfolding join_below lines_from
below_from names blocks k zero =
    let e : k + 0 ≡ k = omega arith in
    ap (lines_below names blocks) e ∙ sym (append-nil (lines_below names blocks k))
below_from names blocks k (suc m) =
    let e : k + suc m ≡ suc k + m = omega arith in
    ap (lines_below names blocks) e ∙ below_from names blocks (suc k) m ∙ append_assoc (lines_below names blocks k) (lines_at names blocks k) (lines_from names blocks (suc k) m)

-- the runs of the open block
scan_runs : (named : Named) (n : ℕ) (words : List (List Letter)) (before after : List Run) (lines : List Line) → IsNamed named → length words < length named.net.signals →
    AreFine (signal_of named.net.signals (length words)) (before ++ after) named.net.steps →
    scan named n (record { words = words; is_open = true; runs = before }) (map (run_line (signal_names_at named.names (length words))) after ++ lines)
    ≡ scan named (n + length after) (record { words = words; is_open = true; runs = before ++ after }) lines
scan_runs named n words before [] lines valid within fine =
    let e : n ≡ n + 0 = omega arith in
    ap (λ n. scan named n (record { words = words; is_open = true; runs = before }) lines) e
    ∙ ap (λ runs. scan named (n + 0) (record { words = words; is_open = true; runs = runs }) lines) (sym (append-nil before))
scan_runs named n words before (run ∷ after) lines valid within fine =
    let s : ℕ = length words in
    let signal : Signal = signal_of named.net.signals s in
    let own : SignalNames = signal_names_at named.names s in
    let names : AreSignalNames signal own = valid.each_signal s (let count = valid.one_per_signal in omega arith) in
    let here : IsKnown own run = subst (IsKnown own) (get_or_at before run after (record { phase = 0; green = 0 }) (length before) refl)
    (own_known named s (before ++ run ∷ after) valid within fine (length before) (omega (arith, length-append before (run ∷ after)))) in
    let same : run_named own.phases (get_or own.phases run.phase []) run.green ≡ run = ap (λ (p : ℕ). record { phase = p; green = run.green }) (phase_number-at own.phases run.phase names.differ here.phase) in
    let joined : (before ++ run ∷ []) ++ after ≡ before ++ run ∷ after = append_assoc before (run ∷ []) after in
    let none : faults_at signal (before ++ run ∷ []) named.net.steps (length before) ≡ [] =
    sym (faults_at-front signal (before ++ run ∷ []) after named.net.steps (length before) (omega (arith, length_push before run)))
    ∙ ap (λ runs. faults_at signal runs named.net.steps (length before)) joined
    ∙ join_none (length (before ++ run ∷ after)) (faults_at signal (before ++ run ∷ after) named.net.steps) (length before) fine (omega (arith, length-append before (run ∷ after))) in
    let next = λ (progress : Progress). scan named (n + 1) progress (map (run_line own) after ++ lines) in
    let e : n + 1 + length after ≡ n + suc (length after) = omega arith in
    ap (λ (run : Run). and_then (unless (map (RunAt n) (faults_at signal (before ++ run ∷ []) named.net.steps (length before))) (record { words = words; is_open = true; runs = before ++ run ∷ [] })) next) same
    ∙ ap (λ faults. and_then (unless (map (RunAt n) faults) (record { words = words; is_open = true; runs = before ++ run ∷ [] })) next) none
    ∙ scan_runs named (n + 1) words (before ++ run ∷ []) after lines valid within (subst (λ runs. AreFine signal runs named.net.steps) (sym joined) fine)
    ∙ ap (λ runs. scan named (n + 1 + length after) (record { words = words; is_open = true; runs = runs }) lines) joined
    ∙ ap (λ n. scan named n (record { words = words; is_open = true; runs = before ++ run ∷ after }) lines) e

-- the words of the first blocks
closed_at : List (List Letter) → ℕ → Progress
closed_at words k = record { words = take k words; is_open = false; runs = [] }

-- the block of the next signal begins
begins_block : (named : Named) (n k : ℕ) (words : List (List Letter)) → k < length named.net.signals → k ≤ length words →
    begun named n (signal_names_at named.names k).name (closed_at words k) ≡ Ok (record { words = take k words; is_open = true; runs = [] })
unfolding closed_at
begins_block named n k words within inside =
    let count : length (take k words) ≡ k = length-take-le k words inside in
    let name = (signal_names_at named.names k).name in
    let own : (nat_lt k (length named.net.signals) && bytes_eq name name) ≡ true = and_from (nat_lt k (length named.net.signals)) (bytes_eq name name) (lt-ltb k (length named.net.signals) within) ((bytes_eq-Decides name name).1 refl) in
    ap (λ (s : ℕ). unless (signal_faults named n name s) (record { words = take k words; is_open = true; runs = [] })) count
    ∙ ap (λ own. unless (where_so (not own) (SignalAt n)) (record { words = take k words; is_open = true; runs = [] })) own

-- the block is closed by its word
closes_block : (named : Named) (n k : ℕ) (words : List (List Letter)) (runs : List Run) → k < length words → expanded (signal_of named.net.signals k) runs named.net.steps ≡ Ok (get_or words k []) →
    closed named n (record { words = take k words; is_open = true; runs = runs }) ≡ Ok (closed_at words (suc k))
unfolding closed_at
closes_block named n k words runs within is =
    let count : length (take k words) ≡ k = length-take-le k words (omega arith) in
    ap (λ (s : ℕ). with_word n (take k words) (expanded (signal_of named.net.signals s) runs named.net.steps)) count
    ∙ ap (with_word n (take k words)) is
    ∙ ap (λ (words : List (List Letter)). Ok (record { words = words; is_open = false; runs = [] })) (sym (take_more words k [] within) ∙ ap (λ (k : ℕ). take k words) (add-one k))

-- the blocks that are left, and the end
scan_blocks : (named : Named) (blocks : List (List Run)) (words : List (List Letter)) (m k n : ℕ) (progress : Progress) → IsNamed named → length words ≡ length named.net.signals → k + m ≡ length words →
    ((s : ℕ) → s < length words → expanded (signal_of named.net.signals s) (runs_at blocks s) named.net.steps ≡ Ok (get_or words s [])) →
    ((n : ℕ) → closed named n progress ≡ Ok (closed_at words k)) →
    scan named n progress (lines_from named.names blocks k m ++ End ∷ Nothing ∷ []) ≡ Ok (record { words = words })
unfolding closed_at lines_from
scan_blocks named blocks words zero k n progress valid count left each closes =
    let all : take k words ≡ words = take_all k words (omega arith) in
    let none : nat_lt (length words) (length named.net.signals) ≡ false = le-ltb (length words) (length named.net.signals) (omega arith) in
    ap (λ r. and_then (and_then r (whole named n)) (λ progress. after_end (n + 1) progress (Nothing ∷ []))) (closes n)
    ∙ ap (λ (words : List (List Letter)). and_then (whole named n (record { words = words; is_open = false; runs = [] })) (λ progress. after_end (n + 1) progress (Nothing ∷ []))) all
    ∙ ap (λ fewer. and_then (unless (where_so fewer (Missing (length words))) (record { words = words; is_open = false; runs = [] })) (λ progress. after_end (n + 1) progress (Nothing ∷ []))) none
scan_blocks named blocks words (suc m) k n progress valid count left each closes =
    let inside : k < length words = omega arith in
    let within : k < length named.net.signals = omega arith in
    let own : SignalNames = signal_names_at named.names k in
    let runs : List Run = runs_at blocks k in
    let tail : List Line = lines_from named.names blocks (suc k) m ++ End ∷ Nothing ∷ [] in
    let long : length (take k words) ≡ k = length-take-le k words (omega arith) in
    let joined : map (run_line own) runs ++ lines_from named.names blocks (suc k) m ++ End ∷ Nothing ∷ [] ≡ map (run_line own) runs ++ tail =
    append_assoc (map (run_line own) runs) (lines_from named.names blocks (suc k) m) (End ∷ Nothing ∷ []) in
    let fine : AreFine (signal_of named.net.signals k) runs named.net.steps = expanded_is_fine (signal_of named.net.signals k) runs named.net.steps (get_or words k []) (each k inside) in
    ap (λ r. and_then (and_then r (begun named n own.name)) (λ progress. scan named (n + 1) progress (map (run_line own) runs ++ lines_from named.names blocks (suc k) m ++ End ∷ Nothing ∷ []))) (closes n)
    ∙ ap (λ r. and_then r (λ progress. scan named (n + 1) progress (map (run_line own) runs ++ lines_from named.names blocks (suc k) m ++ End ∷ Nothing ∷ []))) (begins_block named n k words within (omega arith))
    ∙ ap (scan named (n + 1) (record { words = take k words; is_open = true; runs = [] })) joined
    ∙ ap (λ (s : ℕ). scan named (n + 1) (record { words = take k words; is_open = true; runs = [] }) (map (run_line (signal_names_at named.names s)) runs ++ tail)) (sym long)
    ∙ scan_runs named (n + 1) (take k words) [] runs tail valid (omega arith) (subst (λ (s : ℕ). AreFine (signal_of named.net.signals s) runs named.net.steps) (sym long) fine)
    ∙ scan_blocks named blocks words m (suc k) (n + 1 + length runs) (record { words = take k words; is_open = true; runs = runs }) valid count (omega arith) each (λ n. closes_block named n k words runs inside (each k inside))

-- the pass over the lines of a plan answers the plan
pub lines_are_scanned : (named : Named) (lines : List Line) (plan : Plan) → IsNamed named → AreOf named lines plan → scanned named lines ≡ Ok plan
unfolding join_below closed_at
lines_are_scanned named lines plan valid are =
    let n : ℕ = length named.net.signals in
    let zero_more : 0 + n ≡ n = omega arith in
    let all : lines_below named.names are.blocks n ≡ lines_from named.names are.blocks 0 n = ap (lines_below named.names are.blocks) (sym zero_more) ∙ below_from named.names are.blocks 0 n in
    ap (scanned named) are.written
    ∙ ap (scan named 2 at_first) (append_assoc (lines_below named.names are.blocks n) (End ∷ []) (Nothing ∷ []) ∙ ap (λ lines. lines ++ End ∷ Nothing ∷ []) all)
    ∙ scan_blocks named are.blocks plan.words n 0 2 at_first valid are.words (zero_more ∙ sym are.words) are.each (λ n. refl)

-- ---- the two laws

pub spells_where_read : (named : Named) (text : List ℕ) (plan : Plan) → IsNamed named → spelled_plan named text ≡ Ok plan → Spells named text plan
spells_where_read named text plan valid is =
    spells_from_lines named text plan valid
    (scanned_lines named (lines_in text) plan (scanned named (lines_in text)) (sym (spelled_is_scanned named text valid) ∙ is) (all_judged named (lines_in text) valid (lines_tail text)))

pub read_where_spells : (named : Named) (text : List ℕ) (plan : Plan) → IsNamed named → Spells named text plan → spelled_plan named text ≡ Ok plan
read_where_spells named text plan valid spells =
    spelled_is_scanned named text valid ∙ lines_are_scanned named (lines_in text) plan valid (lines_from_spells named text plan valid spells)

-- runs as pairs
pair_of : Run → ℕ × ℕ
pair_of run = (run.phase, run.green)

runs_by_pairs : (runs : List Run) → map run_by (map pair_of runs) ≡ runs
unfolding pair_of
runs_by_pairs [] = refl
runs_by_pairs (run ∷ runs) = ap (λ runs. run ∷ runs) (runs_by_pairs runs)

-- one word has one list of runs
runs_once : (signal : Signal) (xs ys : List Run) (steps : ℕ) (word : List Letter) → IsSignal signal → expanded signal xs steps ≡ Ok word → expanded signal ys steps ≡ Ok word → xs ≡ ys
runs_once signal xs ys steps word valid is also =
    let pairs : map pair_of xs ≡ map pair_of ys =
    expanded_once signal (map pair_of xs) (map pair_of ys) steps word valid
    (ap (λ runs. expanded signal runs steps) (runs_by_pairs xs) ∙ is) (ap (λ runs. expanded signal runs steps) (runs_by_pairs ys) ∙ also) in
    sym (runs_by_pairs xs) ∙ ap (map run_by) pairs ∙ runs_by_pairs ys

pub one_text : (named : Named) (text other : List ℕ) (plan : Plan) → IsNamed named → Spells named text plan → Spells named other plan → text ≡ other
one_text named text other plan valid spells also =
    let blocks : spells.blocks ≡ also.blocks =
    ext_get_or [] spells.blocks also.blocks (spells.one_per_signal ∙ sym also.one_per_signal)
    (λ s within. runs_once (signal_of named.net.signals s) (runs_at spells.blocks s) (runs_at also.blocks s) named.net.steps (word_of plan s)
    (valid.valid.each_signal s _ (let count = spells.one_per_signal in omega arith))
    (spells.each s (let count = spells.one_per_signal in let words = spells.words in omega arith)) (also.each s (let count = spells.one_per_signal in let words = spells.words in omega arith))) in
    spells.spelled ∙ ap (text_by named.names) blocks ∙ sym also.spelled

-- a plan that has a text is admissible
pub spells_admissible : (named : Named) (text : List ℕ) (plan : Plan) → IsNamed named → Spells named text plan → IsAdmissiblePlan named.net plan
spells_admissible named text plan valid spells = record {
  words = record {
    one_per_signal = spells.words;
    letters = λ s within. expanded_length (signal_of named.net.signals s) (runs_at spells.blocks s) named.net.steps (word_of plan s) (spells.each s within);
  };
  each = λ s within. expanded_is_admissible (signal_of named.net.signals s) (runs_at spells.blocks s) named.net.steps (word_of plan s)
      (valid.valid.each_signal s _ (let words = spells.words in omega arith)) (spells.each s within);
}
