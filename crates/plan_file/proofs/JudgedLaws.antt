-- The pass over the lines finds the first fault of all, or else lines that are those of the plan's runs.
use Rattle.std.proofs.Common.{◌≡◌, inl, inr, ℕ, suc, ◌<◌, ◌≤◌, Bool, true, false, List, [], ◌∷◌, ◌++◌, length, map, get_or, take, Some, None, Result, Ok, Err, refl, sym, ap, subst, ◌∙◌, arith, add-one}
use Rattle.std.specs.Prelude.{not, ◌&&◌, nat_lt, unwrap_or}
use Rattle.std.specs.List.{list_any, position_or_len}
use Rattle.std.specs.Str.{bytes_eq}
use Rattle.std.proofs.lemmas.Bool.{and_from, and_parts, cases_eq, cases_lt, cond-false, cond-true, lt-ltb, le-ltb, ltb-true, not_from_false}
use Rattle.std.proofs.lemmas.List.{append_assoc, append-nil, get_or_append_left, get_or_push, length_push, map-append}
use Rattle.std.proofs.lemmas.List.Folds.{list_any-append}
use Rattle.std.proofs.lemmas.List.Sums.{passes_at_first}
use Rattle.std.proofs.lemmas.Slice.Eq.{bytes_eq-Decides}
use Rattle.listed.specs.Below.{join_below}
use Rattle.refusals.specs.Faults.{unless, where_so}
use Rattle.refusals.proofs.FirstFaults.{BeginsWith}
use Rattle.listed.proofs.JoinLaws.{join_below-same}
use Rattle.ct_base.specs.Access.{signal_of}
use Rattle.ct_base.specs.Validity.{IsSignal}
use Rattle.ct_base.specs.declared.plan.Letter.{Letter}
use Rattle.ct_base.specs.declared.signal.Signal.{Signal}
use Rattle.traffic_model.specs.Runs.{Run, letters_of_runs}
use Rattle.phase_rules.specs.Expansion.{expanded, faults_at as faults_of_run, short_faults as faults_of_end}
use Rattle.phase_rules.specs.declared.fault.RunFault.{RunFault}
use Rattle.named_net.specs.Naming.{AreSignalNames, IsNamed, Named, NameTable, signal_names_at}
use Rattle.named_net.specs.declared.names.SignalNames.{SignalNames}
use Rattle.plan_file.specs.Lines.{Line, Head, OfSignal, OfRun}
use Rattle.plan_file.specs.PlanText.{runs_at}
use Rattle.plan_file.specs.Refusals.{block_runs, blocks_in, faults_by, is_end, may_stand, phase_number, run_faults, run_named, runs_in_block, short_faults, signal_faults}
use Rattle.plan_file.specs.inner.Scan.{Progress, and_then, begun, closed, ran, stepped, with_word}
use Rattle.plan_file.specs.declared.fault.PlanFault.{PlanFault}
use Rattle.plan_file.specs.declared.fault.PlanFault.TheVariants.{Form, Signal as SignalAt, Run as RunAt}
use Rattle.plan_file.proofs.BlockLaws.{AreKnown, IsKnown, blocks_in-append, blocks_in-below, blocks_in-block, no_end-below, no_end-block, runs_in_block-last}
use Rattle.plan_file.proofs.RunLaws.{AreFine, expanded_at_end, fine_is_known, fine_more}
use Rattle.plan_file.proofs.TailLaws.{begins_left, line_faults}
use Rattle.plan_file.proofs.Written.{block_lines, lines_at, lines_below, run_line}

-- ---- what the lines so far say

-- the blocks become the words
pub record AreWords (named : Named) (blocks : List (List Run)) (words : List (List Letter)) : Type 0 where
  pub count : length words ≡ length blocks
  pub each : (s : ℕ) → s < length blocks → expanded (signal_of named.net.signals s) (runs_at blocks s) named.net.steps ≡ Ok (get_or words s [])

-- all blocks are closed
pub record IsClosed (named : Named) (before : List Line) (words : List (List Letter)) : Type 0 where
  pub blocks : List (List Run)
  pub written : before ≡ Head ∷ lines_below named.names blocks (length blocks)
  pub are_words : AreWords named blocks words
  pub within : length blocks ≤ length named.net.signals

-- a block is open, and its runs have no fault
pub record IsOpen (named : Named) (before : List Line) (words : List (List Letter)) (runs : List Run) : Type 0 where
  pub blocks : List (List Run)
  pub written : before ≡ Head ∷ (lines_below named.names blocks (length blocks) ++ block_lines (signal_names_at named.names (length blocks)) runs)
  pub are_words : AreWords named blocks words
  pub within : length blocks < length named.net.signals
  pub fine : AreFine (signal_of named.net.signals (length blocks)) runs named.net.steps

abbrev pub IsAtBy : Named → List Line → List (List Letter) → Bool → List Run → Type 0
IsAtBy named before words true runs = IsOpen named before words runs
IsAtBy named before words false runs = (before ≡ Head ∷ []) × (words ≡ [])

abbrev pub IsAt : Named → List Line → Progress → Type 0
IsAt named before progress = IsAtBy named before progress.words progress.is_open progress.runs

-- ---- facts of a valid network

own_names : (named : Named) (s : ℕ) → IsNamed named → s < length named.net.signals → AreSignalNames (signal_of named.net.signals s) (signal_names_at named.names s)
own_names named s valid within = valid.each_signal s (let count = valid.one_per_signal in omega arith)

own_signal : (named : Named) (s : ℕ) → IsNamed named → s < length named.net.signals → IsSignal (signal_of named.net.signals s)
own_signal named s valid within = valid.valid.each_signal s _ within

pub own_known : (named : Named) (s : ℕ) (runs : List Run) → IsNamed named → s < length named.net.signals → AreFine (signal_of named.net.signals s) runs named.net.steps → AreKnown (signal_names_at named.names s) runs
own_known named s runs valid within fine =
    fine_is_known (signal_of named.net.signals s) (signal_names_at named.names s) runs named.net.steps (own_signal named s valid within) (own_names named s valid within).one_per_phase valid.valid.steps.1 fine

-- ---- what the lines before an open block's end say

open_count : (named : Named) (before : List Line) (words : List (List Letter)) (runs : List Run) (opened : IsOpen named before words runs) → blocks_in before ≡ suc (length opened.blocks)
open_count named before words runs opened =
    let k : ℕ = length opened.blocks in
    ap blocks_in opened.written
    ∙ blocks_in-append (lines_below named.names opened.blocks k) (block_lines (signal_names_at named.names k) runs)
    ∙ omega (arith, blocks_in-below named.names opened.blocks k, blocks_in-block (signal_names_at named.names k) runs)

open_no_end : (named : Named) (before : List Line) (words : List (List Letter)) (runs : List Run) (opened : IsOpen named before words runs) → list_any is_end before ≡ false
open_no_end named before words runs opened =
    let k : ℕ = length opened.blocks in
    ap (list_any is_end) opened.written
    ∙ list_any-append is_end (lines_below named.names opened.blocks k) (block_lines (signal_names_at named.names k) runs)
    ∙ rw (no_end-below named.names opened.blocks k) (no_end-block (signal_names_at named.names k) runs)

open_runs : (named : Named) (before : List Line) (words : List (List Letter)) (runs : List Run) (opened : IsOpen named before words runs) → IsNamed named → block_runs named before (length opened.blocks) ≡ runs
open_runs named before words runs opened valid =
    let k : ℕ = length opened.blocks in
    let own : SignalNames = signal_names_at named.names k in
    ap (λ before. runs_in_block own.phases before k) (opened.written ∙ ap (λ lines. Head ∷ (lines_below named.names opened.blocks k ++ lines)) (sym (append-nil (block_lines own runs))))
    ∙ runs_in_block-last named.names opened.blocks k own runs [] (own_names named k valid opened.within).differ (own_known named k runs valid opened.within opened.fine) refl

-- ---- the end of a block

-- one block more
words_more : (named : Named) (blocks : List (List Run)) (words : List (List Letter)) (runs : List Run) (word : List Letter) → AreWords named blocks words →
    expanded (signal_of named.net.signals (length blocks)) runs named.net.steps ≡ Ok word → AreWords named (blocks ++ runs ∷ []) (words ++ word ∷ [])
words_more named blocks words runs word are is = record {
  count = omega (arith, length_push words word, length_push blocks runs, are.count);
  each = λ s within. elim (cases_eq s (length blocks)) [
    | inl e ↦
        let here : runs_at (blocks ++ runs ∷ []) s ≡ runs = get_or_push blocks runs [] s (sym e) in
        let last : get_or (words ++ word ∷ []) s [] ≡ word = get_or_push words word [] s (are.count ∙ sym e) in
        ap (λ runs. expanded (signal_of named.net.signals s) runs named.net.steps) here
        ∙ ap (λ (k : ℕ). expanded (signal_of named.net.signals k) runs named.net.steps) e ∙ is ∙ ap Ok (sym last)
    | inr ne ↦
        let inside : s < length blocks = (let count = length_push blocks runs in omega arith) in
        let here : runs_at (blocks ++ runs ∷ []) s ≡ runs_at blocks s = get_or_append_left blocks (runs ∷ []) [] s inside in
        let kept : get_or (words ++ word ∷ []) s [] ≡ get_or words s [] = get_or_append_left words (word ∷ []) [] s (let count = are.count in omega arith) in
        ap (λ runs. expanded (signal_of named.net.signals s) runs named.net.steps) here ∙ are.each s inside ∙ ap Ok (sym kept)
  ];
}

-- the lines of one block more
lines_more : (names : NameTable) (blocks : List (List Run)) (runs : List Run) →
    lines_below names (blocks ++ runs ∷ []) (length (blocks ++ runs ∷ [])) ≡ lines_below names blocks (length blocks) ++ block_lines (signal_names_at names (length blocks)) runs
unfolding join_below
lines_more names blocks runs =
    let k : ℕ = length blocks in
    ap (lines_below names (blocks ++ runs ∷ [])) (length_push blocks runs ∙ add-one (length blocks))
    ∙ ap (λ lines. lines ++ lines_at names (blocks ++ runs ∷ []) k)
    (join_below-same k (lines_at names (blocks ++ runs ∷ [])) (lines_at names blocks) (λ s within. ap (block_lines (signal_names_at names s)) (get_or_append_left blocks (runs ∷ []) [] s within)))
    ∙ ap (λ runs. lines_below names blocks k ++ block_lines (signal_names_at names k) runs) (get_or_push blocks runs [] k refl)

-- an open block is closed by its word
closed_by : (named : Named) (before : List Line) (words : List (List Letter)) (runs : List Run) (word : List Letter) (opened : IsOpen named before words runs) →
    expanded (signal_of named.net.signals (length opened.blocks)) runs named.net.steps ≡ Ok word → IsClosed named before (words ++ word ∷ [])
closed_by named before words runs word opened is = record {
  blocks = opened.blocks ++ runs ∷ [];
  written = opened.written ∙ ap (λ lines. Head ∷ lines) (sym (lines_more named.names opened.blocks runs));
  are_words = words_more named opened.blocks words runs word opened.are_words is;
  within = (let count = length_push opened.blocks runs in let inside = opened.within in omega arith);
}

-- an answer about the end of a block
abbrev pub Closing : Named → ℕ → List Line → Result Progress PlanFault → Type 0
Closing named n before (Err fault) = BeginsWith fault (short_faults named before n (blocks_in before))
Closing named n before (Ok progress) = (short_faults named before n (blocks_in before) ≡ []) × IsClosed named before progress.words

closing_by : (named : Named) (n : ℕ) (before : List Line) (words : List (List Letter)) (runs : List Run) (word : List Letter) (opened : IsOpen named before words runs) (faults : List RunFault) →
    short_faults named before n (blocks_in before) ≡ map (RunAt n) faults →
    expanded (signal_of named.net.signals (length opened.blocks)) runs named.net.steps ≡ unless faults word →
    Closing named n before (with_word n words (unless faults word))
closing_by named n before words runs word opened [] short is = (short, closed_by named before words runs word opened is)
closing_by named n before words runs word opened (fault ∷ faults) short is = (map (RunAt n) faults, short)

closing_open : (named : Named) (n : ℕ) (before : List Line) (words : List (List Letter)) (runs : List Run) → IsNamed named → IsOpen named before words runs →
    Closing named n before (closed named n (record { words = words; is_open = true; runs = runs }))
closing_open named n before words runs valid opened =
    let k : ℕ = length opened.blocks in
    let signal : Signal = signal_of named.net.signals k in
    let faults = faults_of_end signal runs named.net.steps in
    let word = take named.net.steps (letters_of_runs signal runs) in
    let is : expanded signal runs named.net.steps ≡ unless faults word = expanded_at_end signal runs named.net.steps opened.fine in
    let short : short_faults named before n (blocks_in before) ≡ map (RunAt n) faults =
    ap (short_faults named before n) (open_count named before words runs opened)
    ∙ ap (λ ran. map (RunAt n) (faults_of_end signal ran named.net.steps)) (open_runs named before words runs opened valid) in
    let gives : closed named n (record { words = words; is_open = true; runs = runs }) ≡ with_word n words (unless faults word) =
    ap (λ (s : ℕ). with_word n words (expanded (signal_of named.net.signals s) runs named.net.steps)) opened.are_words.count ∙ ap (with_word n words) is in
    subst (Closing named n before) (sym gives) (closing_by named n before words runs word opened faults short is)

closing_first : (named : Named) (n : ℕ) (before : List Line) (words : List (List Letter)) (runs : List Run) → before ≡ Head ∷ [] → words ≡ [] →
    Closing named n before (closed named n (record { words = words; is_open = false; runs = runs }))
unfolding join_below
closing_first named n before words runs first none = (
  ap (λ before. short_faults named before n (blocks_in before)) first,
  record { blocks = []; written = first; are_words = record { count = ap length none; each = λ s within. absurd (omega arith) }; within = omega arith },
)

pub closing : (named : Named) (n : ℕ) (before : List Line) (words : List (List Letter)) (is_open : Bool) (runs : List Run) → IsNamed named → IsAtBy named before words is_open runs →
    Closing named n before (closed named n (record { words = words; is_open = is_open; runs = runs }))
closing named n before words true runs valid at = closing_open named n before words runs valid at
closing named n before words false runs valid at = closing_first named n before words runs at.0 at.1

-- ---- the step of a line

-- an answer about a line
abbrev pub Stepped : Named → ℕ → List Line → Line → Result Progress PlanFault → Type 0
Stepped named n before line (Err fault) = BeginsWith fault (line_faults named before n line)
Stepped named n before line (Ok progress) = (line_faults named before n line ≡ []) × IsAt named (before ++ line ∷ []) progress

-- ---- `signal NAME`

-- a block may begin where no end came before
signal_stands : (before lines : List Line) (name : List ℕ) → before ≡ Head ∷ lines → list_any is_end before ≡ false → may_stand before (OfSignal name) ≡ true
signal_stands before lines name first none = ap (λ before. may_stand before (OfSignal name)) first ∙ rw (ap (list_any is_end) (sym first) ∙ none)

signal_is : (named : Named) (n : ℕ) (before lines : List Line) (name : List ℕ) → before ≡ Head ∷ lines → list_any is_end before ≡ false →
    line_faults named before n (OfSignal name) ≡ short_faults named before n (blocks_in before) ++ signal_faults named n name (blocks_in before)
signal_is named n before lines name first none =
    ap (λ may. where_so (not may) (Form n) ++ faults_by named before n (OfSignal name)) (signal_stands before lines name first none)

pub closed_no_end : (named : Named) (before : List Line) (words : List (List Letter)) (all : IsClosed named before words) → list_any is_end before ≡ false
closed_no_end named before words all = ap (list_any is_end) all.written ∙ no_end-below named.names all.blocks (length all.blocks)

pub closed_count : (named : Named) (before : List Line) (words : List (List Letter)) (all : IsClosed named before words) → blocks_in before ≡ length words
closed_count named before words all = ap blocks_in all.written ∙ blocks_in-below named.names all.blocks (length all.blocks) ∙ sym all.are_words.count

-- the next block begins with its own name
begun_by : (named : Named) (n : ℕ) (before : List Line) (name : List ℕ) (words : List (List Letter)) (own : Bool) → IsClosed named before words → short_faults named before n (blocks_in before) ≡ [] →
    (nat_lt (length words) (length named.net.signals) && bytes_eq name (signal_names_at named.names (length words)).name) ≡ own →
    Stepped named n before (OfSignal name) (unless (where_so (not own) (SignalAt n)) (record { words = words; is_open = true; runs = [] }))
unfolding join_below
begun_by named n before name words true all short is =
    let k : ℕ = length all.blocks in
    let count : length words ≡ k = all.are_words.count in
    let parts = and_parts (nat_lt (length words) (length named.net.signals)) (bytes_eq name (signal_names_at named.names (length words)).name) is in
    let same : name ≡ (signal_names_at named.names (length words)).name = (bytes_eq-Decides name (signal_names_at named.names (length words)).name).0 parts.1 in
    let faults : signal_faults named n name (blocks_in before) ≡ [] =
    ap (signal_faults named n name) (closed_count named before words all) ∙ ap (λ own. where_so (not own) (SignalAt n)) is in (
      signal_is named n before (lines_below named.names all.blocks k) name all.written (closed_no_end named before words all) ∙ rw short faults,
      record {
        blocks = all.blocks;
        written = ap (λ lines. lines ++ OfSignal name ∷ []) all.written ∙ ap (λ name. Head ∷ (lines_below named.names all.blocks k ++ OfSignal name ∷ [])) (same ∙ ap (λ s. (signal_names_at named.names s).name) count);
        are_words = all.are_words;
        within = (let inside = ltb-true (length words) (length named.net.signals) parts.0 in omega arith);
        fine = refl;
      },
    )
begun_by named n before name words false all short is =
    let k : ℕ = length all.blocks in
    let faults : signal_faults named n name (blocks_in before) ≡ SignalAt n ∷ [] =
    ap (signal_faults named n name) (closed_count named before words all) ∙ ap (λ own. where_so (not own) (SignalAt n)) is in
    ([], signal_is named n before (lines_below named.names all.blocks k) name all.written (closed_no_end named before words all) ∙ rw short faults)

begun_after : (named : Named) (n : ℕ) (before lines : List Line) (name : List ℕ) (r : Result Progress PlanFault) → before ≡ Head ∷ lines → list_any is_end before ≡ false →
    Closing named n before r → Stepped named n before (OfSignal name) (and_then r (begun named n name))
begun_after named n before lines name (Err fault) first none closing =
    subst (BeginsWith fault) (sym (signal_is named n before lines name first none)) (begins_left fault (short_faults named before n (blocks_in before)) (signal_faults named n name (blocks_in before)) closing)
begun_after named n before lines name (Ok progress) first none closing =
    begun_by named n before name progress.words (nat_lt (length progress.words) (length named.net.signals) && bytes_eq name (signal_names_at named.names (length progress.words)).name) closing.1 closing.0 refl

pub at_no_end : (named : Named) (before : List Line) (words : List (List Letter)) (is_open : Bool) (runs : List Run) → IsAtBy named before words is_open runs → list_any is_end before ≡ false
at_no_end named before words true runs at = open_no_end named before words runs at
at_no_end named before words false runs at = ap (list_any is_end) at.0

-- behind the first line
abbrev pub BeginsWell : List Line → Type 0
BeginsWell before = (lines : List Line) × (before ≡ Head ∷ lines)

pub at_begins : (named : Named) (before : List Line) (words : List (List Letter)) (is_open : Bool) (runs : List Run) → IsAtBy named before words is_open runs → BeginsWell before
at_begins named before words true runs at = (lines_below named.names at.blocks (length at.blocks) ++ block_lines (signal_names_at named.names (length at.blocks)) runs, at.written)
at_begins named before words false runs at = ([], at.0)

pub signal_step : (named : Named) (n : ℕ) (before : List Line) (name : List ℕ) (progress : Progress) → IsNamed named → IsAt named before progress →
    Stepped named n before (OfSignal name) (stepped named n progress (OfSignal name))
signal_step named n before name progress valid at =
    let first = at_begins named before progress.words progress.is_open progress.runs at in
    begun_after named n before first.0 name (closed named n progress) first.1 (at_no_end named before progress.words progress.is_open progress.runs at)
    (closing named n before progress.words progress.is_open progress.runs valid at)

-- ---- `PHASE GREEN`

-- a name that has a number stands at it
named_at : (names : List (List ℕ)) (name : List ℕ) → phase_number names name < length names → get_or names (phase_number names name) [] ≡ name
named_at names name within =
    let place : ℕ = position_or_len (bytes_eq name) names in
    elim (cases_lt place (length names)) [
      | inl inside ↦
          let found : phase_number names name ≡ place = ap (λ found. unwrap_or found (length names)) (cond-true (nat_lt place (length names)) (Some place) None (lt-ltb place (length names) inside)) in
          ap (λ p. get_or names p []) found ∙ sym ((bytes_eq-Decides name (get_or names place [])).0 (passes_at_first (bytes_eq name) names [] inside))
      | inr past ↦
          let none : phase_number names name ≡ length names = ap (λ found. unwrap_or found (length names)) (cond-false (nat_lt place (length names)) (Some place) None (le-ltb place (length names) past)) in
          absurd (omega arith)
    ]

-- a run may stand in a block
run_stands : (before lines : List Line) (phase : List ℕ) (green : ℕ) → before ≡ Head ∷ lines → list_any is_end before ≡ false → 0 < blocks_in before → may_stand before (OfRun phase green) ≡ true
run_stands before lines phase green first none some =
    ap (λ before. may_stand before (OfRun phase green)) first
    ∙ and_from (nat_lt 0 (blocks_in lines)) (not (list_any is_end lines)) (lt-ltb 0 (blocks_in lines) (let same = ap blocks_in first in omega arith))
    (not_from_false (list_any is_end lines) (ap (list_any is_end) (sym first) ∙ none))

-- the faults of a run, with those before it in its block
run_is : (named : Named) (n : ℕ) (before : List Line) (phase : List ℕ) (green : ℕ) (words : List (List Letter)) (runs : List Run) → IsNamed named → (opened : IsOpen named before words runs) →
    line_faults named before n (OfRun phase green)
    ≡ map (RunAt n) (faults_of_run (signal_of named.net.signals (length opened.blocks)) (runs ++ run_named (signal_names_at named.names (length opened.blocks)).phases phase green ∷ []) named.net.steps (length runs))
run_is named n before phase green words runs valid opened =
    let k : ℕ = length opened.blocks in
    let count = open_count named before words runs opened in
    ap (λ may. where_so (not may) (Form n) ++ faults_by named before n (OfRun phase green))
    (run_stands before (lines_below named.names opened.blocks k ++ block_lines (signal_names_at named.names k) runs) phase green opened.written (open_no_end named before words runs opened) (omega arith))
    ∙ ap (run_faults named before n phase green) count
    ∙ ap (λ ran. map (RunAt n) (faults_of_run (signal_of named.net.signals k) (ran ++ run_named (signal_names_at named.names k).phases phase green ∷ []) named.net.steps (length ran))) (open_runs named before words runs opened valid)

-- one run more without a fault
run_more : (named : Named) (before : List Line) (phase : List ℕ) (green : ℕ) (words : List (List Letter)) (runs : List Run) → IsNamed named → (opened : IsOpen named before words runs) →
    faults_of_run (signal_of named.net.signals (length opened.blocks)) (runs ++ run_named (signal_names_at named.names (length opened.blocks)).phases phase green ∷ []) named.net.steps (length runs) ≡ [] →
    IsOpen named (before ++ OfRun phase green ∷ []) words (runs ++ run_named (signal_names_at named.names (length opened.blocks)).phases phase green ∷ [])
run_more named before phase green words runs valid opened none =
    let k : ℕ = length opened.blocks in
    let own : SignalNames = signal_names_at named.names k in
    let run : Run = run_named own.phases phase green in
    let fine : AreFine (signal_of named.net.signals k) (runs ++ run ∷ []) named.net.steps = fine_more (signal_of named.net.signals k) runs run named.net.steps opened.fine none in
    let known : IsKnown own run = subst (IsKnown own) (get_or_push runs run (record { phase = 0; green = 0 }) (length runs) refl)
    (own_known named k (runs ++ run ∷ []) valid opened.within fine (length runs) (omega (arith, length_push runs run))) in
    let line : run_line own run ≡ OfRun phase green = ap (λ name. OfRun name green) (named_at own.phases phase known.phase) in
    let lines : block_lines own (runs ++ run ∷ []) ≡ block_lines own runs ++ OfRun phase green ∷ [] =
    ap (λ lines. OfSignal own.name ∷ lines) (map-append (run_line own) runs (run ∷ []) ∙ ap (λ line. map (run_line own) runs ++ line ∷ []) line) in
    record {
      blocks = opened.blocks;
      written = ap (λ lines. lines ++ OfRun phase green ∷ []) opened.written
          ∙ ap (λ lines. Head ∷ lines) (append_assoc (lines_below named.names opened.blocks k) (block_lines own runs) (OfRun phase green ∷ []) ∙ ap (λ lines. lines_below named.names opened.blocks k ++ lines) (sym lines));
      are_words = opened.are_words;
      within = opened.within;
      fine = fine;
    }

ran_by : (named : Named) (n : ℕ) (before : List Line) (phase : List ℕ) (green : ℕ) (words : List (List Letter)) (runs : List Run) → IsNamed named → (opened : IsOpen named before words runs) → (faults : List RunFault) →
    faults_of_run (signal_of named.net.signals (length opened.blocks)) (runs ++ run_named (signal_names_at named.names (length opened.blocks)).phases phase green ∷ []) named.net.steps (length runs) ≡ faults →
    Stepped named n before (OfRun phase green)
    (unless (map (RunAt n) faults) (record { words = words; is_open = true; runs = runs ++ run_named (signal_names_at named.names (length opened.blocks)).phases phase green ∷ [] }))
ran_by named n before phase green words runs valid opened [] is =
    (run_is named n before phase green words runs valid opened ∙ ap (map (RunAt n)) is, run_more named before phase green words runs valid opened is)
ran_by named n before phase green words runs valid opened (fault ∷ faults) is =
    (map (RunAt n) faults, run_is named n before phase green words runs valid opened ∙ ap (map (RunAt n)) is)

pub run_step : (named : Named) (n : ℕ) (before : List Line) (phase : List ℕ) (green : ℕ) (words : List (List Letter)) (is_open : Bool) (runs : List Run) → IsNamed named → IsAtBy named before words is_open runs →
    Stepped named n before (OfRun phase green) (ran named n phase green (record { words = words; is_open = is_open; runs = runs }))
run_step named n before phase green words false runs valid at = (
  faults_by named before n (OfRun phase green),
  ap (λ before. where_so (not (may_stand before (OfRun phase green))) (Form n) ++ faults_by named before n (OfRun phase green)) at.0
      ∙ ap (λ before. Form n ∷ faults_by named before n (OfRun phase green)) (sym at.0),
)
run_step named n before phase green words true runs valid at =
    let faults = faults_of_run (signal_of named.net.signals (length at.blocks)) (runs ++ run_named (signal_names_at named.names (length at.blocks)).phases phase green ∷ []) named.net.steps (length runs) in
    subst (λ (s : ℕ). Stepped named n before (OfRun phase green)
    (unless (map (RunAt n) (faults_of_run (signal_of named.net.signals s) (runs ++ run_named (signal_names_at named.names s).phases phase green ∷ []) named.net.steps (length runs)))
    (record { words = words; is_open = true; runs = runs ++ run_named (signal_names_at named.names s).phases phase green ∷ [] })))
    (sym at.are_words.count) (ran_by named n before phase green words runs valid at faults refl)
