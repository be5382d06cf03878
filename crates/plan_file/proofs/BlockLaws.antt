-- The lines of a plan's blocks, looked at again: how many blocks they begin, the runs of each, and their text.
use Rattle.std.proofs.Common.{◌≡◌, inl, inr, ℕ, zero, suc, ◌+◌, ◌<◌, Bool, true, false, List, [], ◌∷◌, ◌++◌, length, map, get_or, None, Some, refl, sym, ap, subst, ◌∙◌, arith}
use Rattle.std.specs.Prelude.{not, ◌&&◌, nat_lt, All, codes, flat_map, position, unwrap_or, if◌then◌else◌}
use Rattle.std.specs.Fmt.{decimal}
use Rattle.std.specs.List.{list_all, list_any, position_or_len}
use Rattle.std.specs.Str.{bytes_eq}
use Rattle.std.proofs.lemmas.Bool.{and_from, and_parts, cases_eq, cond-true, false_from_ne_true, lt-ltb, not-true, or_from, true≢false}
use Rattle.std.proofs.lemmas.List.{append_assoc}
use Rattle.std.proofs.lemmas.List.Concat.{flat_map-append}
use Rattle.std.proofs.lemmas.List.Folds.{list_all-append, list_any-append, list_any_at}
use Rattle.std.proofs.lemmas.List.Sums.{position_or_len_is}
use Rattle.std.proofs.lemmas.Slice.Eq.{bytes_eq-Decides}
use Rattle.listed.specs.Below.{join_below}
use Rattle.traffic_model.specs.Runs.{Run}
use Rattle.phase_rules.specs.Expansion.{run_at}
use Rattle.texts.specs.Names.{is_name}
use Rattle.texts.specs.Names.{all_differ}
use Rattle.named_net.specs.Naming.{NameTable, signal_names_at}
use Rattle.named_net.specs.declared.names.SignalNames.{SignalNames}
use Rattle.plan_file.specs.Lines.{Line, Head, OfSignal, OfRun, End, Other, Nothing, Cut}
use Rattle.plan_file.specs.PlanText.{block_text, run_text, runs_at, text_by}
use Rattle.plan_file.specs.Refusals.{blocks_in, is_end, phase_number, runs_ahead, runs_in_block}
use Rattle.plan_file.proofs.Written.{block_lines, full_of, is_good, lines_at, lines_below, plan_lines, run_line, text_of}

-- ---- names among names

-- of names that differ, one is none of the others
later_differs : (names : List (List ℕ)) (j k : ℕ) → all_differ names ≡ true → j < k → k < length names → bytes_eq (get_or names k []) (get_or names j []) ≡ false
later_differs [] j k differ before within = absurd (omega arith)
later_differs (name ∷ names) zero zero differ before within = absurd (omega arith)
later_differs (name ∷ names) (suc j) zero differ before within = absurd (omega arith)
later_differs (name ∷ names) zero (suc k) differ before within =
    let parts = and_parts (not (list_any (bytes_eq name) names)) (all_differ names) differ in
    let none : list_any (bytes_eq name) names ≡ false = not-true (list_any (bytes_eq name) names) parts.0 in
    false_from_ne_true (bytes_eq (get_or names k []) name) (λ same.
    let is : get_or names k [] ≡ name = (bytes_eq-Decides (get_or names k []) name).0 same in
    let found : list_any (bytes_eq name) names ≡ true = list_any_at (bytes_eq name) names k [] (omega arith) ((bytes_eq-Decides name (get_or names k [])).1 (sym is)) in
    true≢false (sym found ∙ none))
later_differs (name ∷ names) (suc j) (suc k) differ before within =
    let parts = and_parts (not (list_any (bytes_eq name) names)) (all_differ names) differ in
    later_differs names j k parts.1 (omega arith) (omega arith)

-- the number of a name is its place
pub phase_number-at : (names : List (List ℕ)) (p : ℕ) → all_differ names ≡ true → p < length names → phase_number names (get_or names p []) ≡ p
phase_number-at names p differ within =
    let place : position_or_len (bytes_eq (get_or names p [])) names ≡ p =
    position_or_len_is (bytes_eq (get_or names p [])) names p [] (omega arith) (λ k before. later_differs names k p differ before within)
    (λ _. (bytes_eq-Decides (get_or names p []) (get_or names p [])).1 refl) in
    let found : position (bytes_eq (get_or names p [])) names ≡ Some p =
    ap (λ n. if nat_lt n (length names) then Some n else None) place ∙ cond-true (nat_lt p (length names)) (Some p) None (lt-ltb p (length names) within) in
    ap (λ place. unwrap_or place (length names)) found

-- ---- how many blocks, and no end

pub blocks_in-append : (xs ys : List Line) → blocks_in (xs ++ ys) ≡ blocks_in xs + blocks_in ys
blocks_in-append [] ys = omega arith
blocks_in-append (OfSignal name ∷ xs) ys = omega (arith, blocks_in-append xs ys)
blocks_in-append (Head ∷ xs) ys = blocks_in-append xs ys
blocks_in-append (OfRun phase green ∷ xs) ys = blocks_in-append xs ys
blocks_in-append (End ∷ xs) ys = blocks_in-append xs ys
blocks_in-append (Other ∷ xs) ys = blocks_in-append xs ys
blocks_in-append (Nothing ∷ xs) ys = blocks_in-append xs ys
blocks_in-append (Cut ∷ xs) ys = blocks_in-append xs ys

-- runs begin no block
blocks_in-runs : (names : SignalNames) (runs : List Run) → blocks_in (map (run_line names) runs) ≡ 0
blocks_in-runs names [] = refl
blocks_in-runs names (run ∷ runs) = blocks_in-runs names runs

pub blocks_in-block : (names : SignalNames) (runs : List Run) → blocks_in (block_lines names runs) ≡ 1
blocks_in-block names runs = omega (arith, blocks_in-runs names runs)

pub blocks_in-below : (names : NameTable) (blocks : List (List Run)) (n : ℕ) → blocks_in (lines_below names blocks n) ≡ n
unfolding join_below
blocks_in-below names blocks zero = refl
blocks_in-below names blocks (suc n) =
    blocks_in-append (lines_below names blocks n) (lines_at names blocks n)
    ∙ omega (arith, blocks_in-below names blocks n, blocks_in-block (signal_names_at names n) (runs_at blocks n))

no_end-runs : (names : SignalNames) (runs : List Run) → list_any is_end (map (run_line names) runs) ≡ false
no_end-runs names [] = refl
no_end-runs names (run ∷ runs) = no_end-runs names runs

pub no_end-block : (names : SignalNames) (runs : List Run) → list_any is_end (block_lines names runs) ≡ false
no_end-block names runs = no_end-runs names runs

pub no_end-below : (names : NameTable) (blocks : List (List Run)) (n : ℕ) → list_any is_end (lines_below names blocks n) ≡ false
unfolding join_below
no_end-below names blocks zero = refl
no_end-below names blocks (suc n) =
    list_any-append is_end (lines_below names blocks n) (lines_at names blocks n)
    ∙ or_from (list_any is_end (lines_below names blocks n)) (list_any is_end (lines_at names blocks n)) (no_end-below names blocks n) (no_end-block (signal_names_at names n) (runs_at blocks n))

-- ---- the runs of a block

-- a run of a phase that there is, with a number of at most 4 digits
pub record IsKnown (names : SignalNames) (run : Run) : Type 0 where
  pub phase : run.phase < length names.phases
  pub green : run.green < 10000

abbrev pub AreKnown : SignalNames → List Run → Type 0
AreKnown names runs = (j : ℕ) → j < length runs → IsKnown names (run_at runs j)

-- the lines do not begin with a run
abbrev pub begins_no_run : List Line → Bool
begins_no_run [] = true
begins_no_run (OfRun phase green ∷ lines) = false
begins_no_run (line ∷ lines) = true

no_runs_ahead : (phases : List (List ℕ)) (lines : List Line) → begins_no_run lines ≡ true → runs_ahead phases lines ≡ []
no_runs_ahead phases [] none = refl
no_runs_ahead phases (OfRun phase green ∷ lines) none = absurd (cc)
no_runs_ahead phases (Head ∷ lines) none = refl
no_runs_ahead phases (OfSignal name ∷ lines) none = refl
no_runs_ahead phases (End ∷ lines) none = refl
no_runs_ahead phases (Other ∷ lines) none = refl
no_runs_ahead phases (Nothing ∷ lines) none = refl
no_runs_ahead phases (Cut ∷ lines) none = refl

-- the lines of runs that are known say these runs
pub runs_ahead-known : (names : SignalNames) (runs : List Run) (lines : List Line) → all_differ names.phases ≡ true → AreKnown names runs → begins_no_run lines ≡ true →
    runs_ahead names.phases (map (run_line names) runs ++ lines) ≡ runs
runs_ahead-known names [] lines differ known none = no_runs_ahead names.phases lines none
runs_ahead-known names (run ∷ runs) lines differ known none =
    let here : IsKnown names run = known 0 (omega arith) in
    ap (λ p. (record { phase = p; green = run.green }) ∷ runs_ahead names.phases (map (run_line names) runs ++ lines)) (phase_number-at names.phases run.phase differ here.phase)
    ∙ ap (λ runs. run ∷ runs) (runs_ahead-known names runs lines differ (λ j within. known (suc j) (omega arith)) none)

-- lines that begin so many blocks are passed
runs_in_block-pass : (phases : List (List ℕ)) (xs ys : List Line) (s t : ℕ) → t ≡ blocks_in xs + s → runs_in_block phases (xs ++ ys) t ≡ runs_in_block phases ys s
runs_in_block-pass phases [] ys s t e = ap (runs_in_block phases ys) (e ∙ (omega arith))
runs_in_block-pass phases (OfSignal name ∷ xs) ys s zero e = absurd (omega arith)
runs_in_block-pass phases (OfSignal name ∷ xs) ys s (suc t) e = runs_in_block-pass phases xs ys s t (omega arith)
runs_in_block-pass phases (Head ∷ xs) ys s t e = runs_in_block-pass phases xs ys s t e
runs_in_block-pass phases (OfRun phase green ∷ xs) ys s t e = runs_in_block-pass phases xs ys s t e
runs_in_block-pass phases (End ∷ xs) ys s t e = runs_in_block-pass phases xs ys s t e
runs_in_block-pass phases (Other ∷ xs) ys s t e = runs_in_block-pass phases xs ys s t e
runs_in_block-pass phases (Nothing ∷ xs) ys s t e = runs_in_block-pass phases xs ys s t e
runs_in_block-pass phases (Cut ∷ xs) ys s t e = runs_in_block-pass phases xs ys s t e

-- the runs of the block behind the first n
pub runs_in_block-last : (names : NameTable) (blocks : List (List Run)) (n : ℕ) (own : SignalNames) (runs : List Run) (lines : List Line) →
    all_differ own.phases ≡ true → AreKnown own runs → begins_no_run lines ≡ true →
    runs_in_block own.phases (lines_below names blocks n ++ (block_lines own runs ++ lines)) n ≡ runs
runs_in_block-last names blocks n own runs lines differ known none =
    runs_in_block-pass own.phases (lines_below names blocks n) (block_lines own runs ++ lines) 0 n (sym (blocks_in-below names blocks n) ∙ (omega arith))
    ∙ runs_ahead-known own runs lines differ known none

-- the runs of block s
pub runs_in_block-below : (names : NameTable) (blocks : List (List Run)) (n s : ℕ) (lines : List Line) → s < n →
    all_differ (signal_names_at names s).phases ≡ true → AreKnown (signal_names_at names s) (runs_at blocks s) → begins_no_run lines ≡ true →
    runs_in_block (signal_names_at names s).phases (lines_below names blocks n ++ lines) s ≡ runs_at blocks s
unfolding join_below
runs_in_block-below names blocks zero s lines within differ known none = absurd (omega arith)
runs_in_block-below names blocks (suc n) s lines within differ known none =
    let own : SignalNames = signal_names_at names s in
    let joined : (lines_below names blocks n ++ lines_at names blocks n) ++ lines ≡ lines_below names blocks n ++ (lines_at names blocks n ++ lines) =
    append_assoc (lines_below names blocks n) (lines_at names blocks n) lines in
    ap (λ all. runs_in_block own.phases all s) joined
    ∙ elim (cases_eq n s) [
      | inl e ↦ subst (λ (k : ℕ). runs_in_block own.phases (lines_below names blocks k ++ (lines_at names blocks k ++ lines)) s ≡ runs_at blocks s) (sym e)
          (runs_in_block-last names blocks s own (runs_at blocks s) lines differ known none)
      | inr ne ↦ runs_in_block-below names blocks n s (lines_at names blocks n ++ lines) (omega arith) differ known refl
    ]

-- ---- good form

runs_are_good : (names : SignalNames) (runs : List Run) → All (λ name. is_name name ≡ true) names.phases → AreKnown names runs → list_all is_good (map (run_line names) runs) ≡ true
runs_are_good names [] named known = refl
runs_are_good names (run ∷ runs) named known =
    let here : IsKnown names run = known 0 (omega arith) in
    and_from (is_name (get_or names.phases run.phase []) && nat_lt run.green 10000) (list_all is_good (map (run_line names) runs))
    (and_from (is_name (get_or names.phases run.phase [])) (nat_lt run.green 10000) (named run.phase [] here.phase) (lt-ltb run.green 10000 here.green))
    (runs_are_good names runs named (λ j within. known (suc j) (omega arith)))

-- a block of known runs
pub record IsBlock (names : SignalNames) (runs : List Run) : Type 0 where
  pub name : is_name names.name ≡ true
  pub phases : All (λ name. is_name name ≡ true) names.phases
  pub differ : all_differ names.phases ≡ true
  pub known : AreKnown names runs

block_is_good : (names : SignalNames) (runs : List Run) → IsBlock names runs → list_all is_good (block_lines names runs) ≡ true
block_is_good names runs block = and_from (is_name names.name) (list_all is_good (map (run_line names) runs)) block.name (runs_are_good names runs block.phases block.known)

below_is_good : (names : NameTable) (blocks : List (List Run)) (n : ℕ) → ((s : ℕ) → s < n → IsBlock (signal_names_at names s) (runs_at blocks s)) → list_all is_good (lines_below names blocks n) ≡ true
unfolding join_below
below_is_good names blocks zero each = refl
below_is_good names blocks (suc n) each =
    list_all-append is_good (lines_below names blocks n) (lines_at names blocks n)
    ∙ and_from (list_all is_good (lines_below names blocks n)) (list_all is_good (lines_at names blocks n))
    (below_is_good names blocks n (λ s within. each s (omega arith))) (block_is_good (signal_names_at names n) (runs_at blocks n) (each n (omega arith)))

pub plan_is_good : (names : NameTable) (blocks : List (List Run)) (n : ℕ) → ((s : ℕ) → s < n → IsBlock (signal_names_at names s) (runs_at blocks s)) → list_all is_good (plan_lines names blocks n) ≡ true
plan_is_good names blocks n each =
    list_all-append is_good (lines_below names blocks n) (End ∷ [])
    ∙ and_from (list_all is_good (lines_below names blocks n)) true (below_is_good names blocks n each) refl

-- ---- text

runs_text : (names : SignalNames) (runs : List Run) → text_of (map (run_line names) runs) ≡ flat_map (run_text names) runs
runs_text names [] = refl
runs_text names (run ∷ runs) =
    let phase : List ℕ = get_or names.phases run.phase [] in
    let one : (phase ++ 32 ∷ decimal run.green) ++ 10 ∷ [] ≡ phase ++ codes " " ++ decimal run.green ++ codes "\n" =
    ap (λ bytes. bytes ++ 10 ∷ []) (sym (append_assoc phase (32 ∷ []) (decimal run.green))) in
    ap (λ bytes. bytes ++ text_of (map (run_line names) runs)) one ∙ ap (λ rest. run_text names run ++ rest) (runs_text names runs)

pub block_text_is : (names : SignalNames) (runs : List Run) → text_of (block_lines names runs) ≡ block_text names runs
block_text_is names runs = ap (λ rest. codes "signal " ++ names.name ++ codes "\n" ++ rest) (runs_text names runs)

pub below_text_is : (names : NameTable) (blocks : List (List Run)) (n : ℕ) → text_of (lines_below names blocks n) ≡ join_below n (λ s. block_text (signal_names_at names s) (runs_at blocks s))
unfolding join_below
below_text_is names blocks zero = refl
below_text_is names blocks (suc n) =
    flat_map-append full_of (lines_below names blocks n) (lines_at names blocks n)
    ∙ ap (λ text. text ++ text_of (lines_at names blocks n)) (below_text_is names blocks n)
    ∙ ap (λ text. join_below n (λ s. block_text (signal_names_at names s) (runs_at blocks s)) ++ text) (block_text_is (signal_names_at names n) (runs_at blocks n))

-- the text of a plan is that of its lines
pub plan_text_is : (names : NameTable) (blocks : List (List Run)) (n : ℕ) → length names.signals ≡ n → text_of (plan_lines names blocks n) ≡ text_by names blocks
unfolding text_by
plan_text_is names blocks n count =
    let text = λ (n : ℕ). join_below n (λ s. block_text (signal_names_at names s) (runs_at blocks s)) in
    ap (λ rest. codes "ctm-plan 1\n" ++ rest) (flat_map-append full_of (lines_below names blocks n) (End ∷ []) ∙ ap (λ rest. rest ++ codes "end\n") (below_text_is names blocks n ∙ ap text (sym count)))
    ∙ sym (append_assoc (codes "ctm-plan 1\n") (text (length names.signals)) (codes "end\n"))
