-- The pass over all lines answers what is spelled: the first fault of all, or the plan whose runs the lines say.
use Rattle.std.proofs.Common.{◌≡◌, ℕ, ◌+◌, ◌<◌, ◌≤◌, Bool, true, false, List, [], ◌∷◌, ◌++◌, length, take, Result, Ok, Err, refl, sym, ap, subst, ◌∙◌, arith}
use Rattle.std.specs.Prelude.{not, nat_lt}
use Rattle.std.specs.List.{list_any}
use Rattle.std.proofs.lemmas.Bool.{and_right, ltb-false, or_right}
use Rattle.std.proofs.lemmas.List.{append_assoc}
use Rattle.std.proofs.lemmas.List.Folds.{list_any-append}
use Rattle.refusals.specs.Faults.{unless, where_so}
use Rattle.refusals.proofs.FirstFaults.{BeginsWith, unless_begins}
use Rattle.ct_base.specs.Access.{signal_of}
use Rattle.ct_base.specs.declared.plan.Letter.{Letter}
use Rattle.ct_base.specs.declared.plan.Plan.{Plan}
use Rattle.listed.proofs.TableLaws.{fill_elements}
use Rattle.traffic_model.specs.Runs.{letters_of_runs, word_of}
use Rattle.phase_rules.proofs.FitLaws.{Spell, spell_from_expanded}
use Rattle.named_net.specs.Naming.{IsNamed, Named, signal_names_at}
use Rattle.plan_file.specs.Lines.{Line, Head, OfSignal, OfRun, End, Other, Nothing, Cut, lines_in}
use Rattle.plan_file.specs.PlanText.{runs_at}
use Rattle.plan_file.specs.Refusals.{block_runs, blocks_in, faults_by, faults_of, is_end, may_stand, runs_in_block, short_faults}
use Rattle.plan_file.specs.inner.Scan.{Progress, after_end, and_then, at_first, closed, ended, scan, scanned, stepped, whole}
use Rattle.plan_file.specs.Spelled.{plan_of, spelled_by, spelled_plan, word_at}
use Rattle.plan_file.specs.declared.fault.PlanFault.{PlanFault}
use Rattle.plan_file.specs.declared.fault.PlanFault.TheVariants.{Form, Missing}
use Rattle.plan_file.proofs.BlockLaws.{runs_in_block-below}
use Rattle.plan_file.proofs.JudgedLaws.{Closing, IsAt, IsClosed, Stepped, at_begins, at_no_end, closed_count, closing, own_known, run_step, signal_step}
use Rattle.plan_file.proofs.RunLaws.{expanded_is_fine}
use Rattle.plan_file.proofs.TailLaws.{IsTail, begins_left, begins_right, faults_of-in_turn, form_is_first, line_faults, lines_tail, rest_faults, tail_after}
use Rattle.plan_file.proofs.Written.{AreOf, lines_below}

-- an answer about the lines that are left
abbrev pub Judged : Named → ℕ → List Line → List Line → Result Plan PlanFault → Type 0
Judged named n before rest (Err fault) = BeginsWith fault (rest_faults named n before rest)
Judged named n before rest (Ok plan) = (rest_faults named n before rest ≡ []) × AreOf named (before ++ rest) plan

-- ---- `end`

-- an answer about the line `end`
abbrev pub Ended : Named → ℕ → List Line → Result Progress PlanFault → Type 0
Ended named n before (Err fault) = BeginsWith fault (line_faults named before n End)
Ended named n before (Ok progress) = (line_faults named before n End ≡ []) × IsClosed named before progress.words × (length named.net.signals ≤ length progress.words)

end_is : (named : Named) (n : ℕ) (before lines : List Line) → before ≡ Head ∷ lines → list_any is_end before ≡ false →
    line_faults named before n End ≡ short_faults named before n (blocks_in before) ++ where_so (nat_lt (blocks_in before) (length named.net.signals)) (Missing (blocks_in before))
end_is named n before lines first none =
    let stands : may_stand before End ≡ true = ap (λ before. may_stand before End) first ∙ rw (ap (list_any is_end) (sym first) ∙ none) in
    ap (λ may. where_so (not may) (Form n) ++ faults_by named before n End) stands

whole_by : (named : Named) (n : ℕ) (before lines : List Line) (progress : Progress) (fewer : Bool) → before ≡ Head ∷ lines → list_any is_end before ≡ false → short_faults named before n (blocks_in before) ≡ [] →
    IsClosed named before progress.words → nat_lt (length progress.words) (length named.net.signals) ≡ fewer →
    Ended named n before (unless (where_so fewer (Missing (length progress.words))) progress)
whole_by named n before lines progress true first none short all fewer =
    let missing : where_so (nat_lt (blocks_in before) (length named.net.signals)) (Missing (blocks_in before)) ≡ Missing (length progress.words) ∷ [] =
    ap (λ (s : ℕ). where_so (nat_lt s (length named.net.signals)) (Missing s)) (closed_count named before progress.words all) ∙ ap (λ fewer. where_so fewer (Missing (length progress.words))) fewer in
    ([], end_is named n before lines first none ∙ rw short missing)
whole_by named n before lines progress false first none short all fewer =
    let missing : where_so (nat_lt (blocks_in before) (length named.net.signals)) (Missing (blocks_in before)) ≡ [] =
    ap (λ (s : ℕ). where_so (nat_lt s (length named.net.signals)) (Missing s)) (closed_count named before progress.words all) ∙ ap (λ fewer. where_so fewer (Missing (length progress.words))) fewer in
    (end_is named n before lines first none ∙ rw short missing, all, ltb-false (length progress.words) (length named.net.signals) fewer)

ended_after : (named : Named) (n : ℕ) (before lines : List Line) (r : Result Progress PlanFault) → before ≡ Head ∷ lines → list_any is_end before ≡ false → Closing named n before r → Ended named n before (and_then r (whole named n))
ended_after named n before lines (Err fault) first none closing =
    subst (BeginsWith fault) (sym (end_is named n before lines first none))
    (begins_left fault (short_faults named before n (blocks_in before)) (where_so (nat_lt (blocks_in before) (length named.net.signals)) (Missing (blocks_in before))) closing)
ended_after named n before lines (Ok progress) first none closing =
    whole_by named n before lines progress (nat_lt (length progress.words) (length named.net.signals)) first none closing.0 closing.1 refl

end_step : (named : Named) (n : ℕ) (before : List Line) (progress : Progress) → IsNamed named → IsAt named before progress → Ended named n before (ended named n progress)
end_step named n before progress valid at =
    let first = at_begins named before progress.words progress.is_open progress.runs at in
    ended_after named n before first.0 (closed named n progress) first.1 (at_no_end named before progress.words progress.is_open progress.runs at)
    (closing named n before progress.words progress.is_open progress.runs valid at)

-- ---- behind `end`

-- nothing but nothing may stand there
after_end_faults : (named : Named) (n : ℕ) (before lines : List Line) (line : Line) (more : List Line) → before ≡ Head ∷ lines → may_stand (Head ∷ (lines ++ End ∷ [])) line ≡ false →
    BeginsWith (Form n) (rest_faults named n (before ++ End ∷ []) (line ∷ more))
after_end_faults named n before lines line more first cannot =
    form_is_first named n (before ++ End ∷ []) line more (ap (λ before. may_stand (before ++ End ∷ []) line) first ∙ cannot)

has_end : (lines : List Line) → list_any is_end (lines ++ End ∷ []) ≡ true
has_end lines = list_any-append is_end lines (End ∷ []) ∙ or_right (list_any is_end lines) true refl

-- the lines are those of the closed blocks
are_of : (named : Named) (before : List Line) (words : List (List Letter)) → IsClosed named before words → length named.net.signals ≤ length words → AreOf named ((before ++ End ∷ []) ++ Nothing ∷ []) (record { words = words })
are_of named before words all full =
    let count : length all.blocks ≡ length named.net.signals = (let count = all.are_words.count in let within = all.within in omega arith) in
    record {
      blocks = all.blocks;
      one_per_signal = count;
      written = ap (λ lines. (lines ++ End ∷ []) ++ Nothing ∷ []) (all.written ∙ ap (λ (n : ℕ). Head ∷ lines_below named.names all.blocks n) count);
      words = all.are_words.count ∙ count;
      each = λ s within. all.are_words.each s (let count = all.are_words.count in omega arith);
    }

after_end_is : (named : Named) (n : ℕ) (before : List Line) (progress : Progress) (rest : List Line) → IsClosed named before progress.words → length named.net.signals ≤ length progress.words → IsTail rest →
    Judged named n (before ++ End ∷ []) rest (after_end n progress rest)
after_end_is named n before progress [] all full tail = absurd tail
after_end_is named n before progress (Nothing ∷ next ∷ rest) all full tail = absurd tail.0
after_end_is named n before progress (Nothing ∷ []) all full tail =
    let lines : List Line = lines_below named.names all.blocks (length all.blocks) in
    let stands : may_stand (before ++ End ∷ []) Nothing ≡ true = ap (λ before. may_stand (before ++ End ∷ []) Nothing) all.written ∙ has_end lines in
    (ap (λ may. (where_so (not may) (Form n) ++ []) ++ []) stands, are_of named before progress.words all full)
after_end_is named n before progress (Head ∷ rest) all full tail = after_end_faults named n before (lines_below named.names all.blocks (length all.blocks)) Head rest all.written refl
after_end_is named n before progress (OfSignal name ∷ rest) all full tail =
    let lines : List Line = lines_below named.names all.blocks (length all.blocks) in
    after_end_faults named n before lines (OfSignal name) rest all.written (rw (has_end lines))
after_end_is named n before progress (OfRun phase green ∷ rest) all full tail =
    let lines : List Line = lines_below named.names all.blocks (length all.blocks) in
    after_end_faults named n before lines (OfRun phase green) rest all.written (rw (has_end lines) (and_right (nat_lt 0 (blocks_in (lines ++ End ∷ []))) false refl))
after_end_is named n before progress (End ∷ rest) all full tail =
    let lines : List Line = lines_below named.names all.blocks (length all.blocks) in
    after_end_faults named n before lines End rest all.written (rw (has_end lines))
after_end_is named n before progress (Other ∷ rest) all full tail = after_end_faults named n before (lines_below named.names all.blocks (length all.blocks)) Other rest all.written refl
after_end_is named n before progress (Cut ∷ rest) all full tail = after_end_faults named n before (lines_below named.names all.blocks (length all.blocks)) Cut rest all.written refl

-- ---- line after line

-- a line without a fault, and an answer about those behind it
judged_more : (named : Named) (n : ℕ) (before : List Line) (line : Line) (rest : List Line) (r : Result Plan PlanFault) → line_faults named before n line ≡ [] → Judged named (n + 1) (before ++ line ∷ []) rest r → Judged named n before (line ∷ rest) r
judged_more named n before line rest (Err fault) none judged = begins_right fault (line_faults named before n line) (rest_faults named (n + 1) (before ++ line ∷ []) rest) none judged
judged_more named n before line rest (Ok plan) none judged =
    (ap (λ faults. faults ++ rest_faults named (n + 1) (before ++ line ∷ []) rest) none ∙ judged.0, subst (λ lines. AreOf named lines plan) (append_assoc before (line ∷ []) rest) judged.1)

judged_step : (named : Named) (n : ℕ) (before : List Line) (line : Line) (rest : List Line) (r : Result Progress PlanFault) (next : Progress → Result Plan PlanFault) → Stepped named n before line r →
    ((progress : Progress) → IsAt named (before ++ line ∷ []) progress → Judged named (n + 1) (before ++ line ∷ []) rest (next progress)) → Judged named n before (line ∷ rest) (and_then r next)
judged_step named n before line rest (Err fault) next step after = begins_left fault (line_faults named before n line) (rest_faults named (n + 1) (before ++ line ∷ []) rest) step
judged_step named n before line rest (Ok progress) next step after = judged_more named n before line rest (next progress) step.0 (after progress step.1)

judged_end : (named : Named) (n : ℕ) (before rest : List Line) (r : Result Progress PlanFault) → Ended named n before r → IsTail rest → Judged named n before (End ∷ rest) (and_then r (λ progress. after_end (n + 1) progress rest))
judged_end named n before rest (Err fault) step tail = begins_left fault (line_faults named before n End) (rest_faults named (n + 1) (before ++ End ∷ []) rest) step
judged_end named n before rest (Ok progress) step tail =
    judged_more named n before End rest (after_end (n + 1) progress rest) step.0 (after_end_is named (n + 1) before progress rest step.1 step.2 tail)

-- a line of no form that may stand there
refused : (named : Named) (n : ℕ) (before : List Line) (progress : Progress) (line : Line) (rest : List Line) → IsAt named before progress → ((lines : List Line) → list_any is_end lines ≡ false → may_stand (Head ∷ lines) line ≡ false) →
    BeginsWith (Form n) (rest_faults named n before (line ∷ rest))
refused named n before progress line rest at cannot =
    let first = at_begins named before progress.words progress.is_open progress.runs at in
    let none : list_any is_end first.0 ≡ false = ap (list_any is_end) (sym first.1) ∙ at_no_end named before progress.words progress.is_open progress.runs at in
    form_is_first named n before line rest (ap (λ before. may_stand before line) first.1 ∙ cannot first.0 none)

judged : (named : Named) (rest : List Line) (n : ℕ) (before : List Line) (progress : Progress) → IsNamed named → IsAt named before progress → IsTail rest → Judged named n before rest (scan named n progress rest)
judged named [] n before progress valid at tail = absurd tail
judged named (End ∷ rest) n before progress valid at tail = judged_end named n before rest (ended named n progress) (end_step named n before progress valid at) (tail_after End rest tt tail)
judged named (OfSignal name ∷ rest) n before progress valid at tail =
    judged_step named n before (OfSignal name) rest (stepped named n progress (OfSignal name)) (λ progress. scan named (n + 1) progress rest) (signal_step named n before name progress valid at)
    (λ progress at. judged named rest (n + 1) (before ++ OfSignal name ∷ []) progress valid at (tail_after (OfSignal name) rest tt tail))
judged named (OfRun phase green ∷ rest) n before progress valid at tail =
    judged_step named n before (OfRun phase green) rest (stepped named n progress (OfRun phase green)) (λ progress. scan named (n + 1) progress rest)
    (run_step named n before phase green progress.words progress.is_open progress.runs valid at)
    (λ progress at. judged named rest (n + 1) (before ++ OfRun phase green ∷ []) progress valid at (tail_after (OfRun phase green) rest tt tail))
judged named (Head ∷ rest) n before progress valid at tail = refused named n before progress Head rest at (λ lines none. refl)
judged named (Other ∷ rest) n before progress valid at tail = refused named n before progress Other rest at (λ lines none. refl)
judged named (Nothing ∷ rest) n before progress valid at tail = refused named n before progress Nothing rest at (λ lines none. none)
judged named (Cut ∷ rest) n before progress valid at tail = refused named n before progress Cut rest at (λ lines none. refl)

-- the pass over all lines
pub all_judged : (named : Named) (lines : List Line) → IsNamed named → IsTail lines → Judged named 1 [] lines (scanned named lines)
all_judged named [] valid tail = absurd tail
all_judged named (Head ∷ lines) valid tail =
    judged_more named 1 [] Head lines (scan named 2 at_first lines) refl (judged named lines 2 (Head ∷ []) at_first valid (refl, refl) (tail_after Head lines tt tail))
all_judged named (OfSignal name ∷ lines) valid tail = form_is_first named 1 [] (OfSignal name) lines refl
all_judged named (OfRun phase green ∷ lines) valid tail = form_is_first named 1 [] (OfRun phase green) lines refl
all_judged named (End ∷ lines) valid tail = form_is_first named 1 [] End lines refl
all_judged named (Other ∷ lines) valid tail = form_is_first named 1 [] Other lines refl
all_judged named (Nothing ∷ lines) valid tail = form_is_first named 1 [] Nothing lines refl
all_judged named (Cut ∷ lines) valid tail = form_is_first named 1 [] Cut lines refl

-- ---- the plan of the lines

-- the runs of a block of a plan's lines
block_runs_are : (named : Named) (lines : List Line) (plan : Plan) (are : AreOf named lines plan) (s : ℕ) → IsNamed named → s < length named.net.signals → block_runs named lines s ≡ runs_at are.blocks s
block_runs_are named lines plan are s valid within =
    let n : ℕ = length named.net.signals in
    let fine = expanded_is_fine (signal_of named.net.signals s) (runs_at are.blocks s) named.net.steps (word_of plan s) (are.each s (let count = are.words in omega arith)) in
    let names = valid.each_signal s (let count = valid.one_per_signal in omega arith) in
    ap (λ lines. block_runs named lines s) are.written
    ∙ ap (λ lines. runs_in_block (signal_names_at named.names s).phases lines s) (append_assoc (lines_below named.names are.blocks n) (End ∷ []) (Nothing ∷ []))
    ∙ runs_in_block-below named.names are.blocks n s (End ∷ Nothing ∷ []) within names.differ (own_known named s (runs_at are.blocks s) valid within fine) refl

-- the words of a plan's lines are the plan's
pub plan_of-lines : (named : Named) (lines : List Line) (plan : Plan) → IsNamed named → AreOf named lines plan → plan_of named lines ≡ plan
plan_of-lines named lines plan valid are =
    let word = λ (s : ℕ) (within : s < length named.net.signals).
    (let spell : Spell (signal_of named.net.signals s) (runs_at are.blocks s) (word_of plan s) named.net.steps =
    spell_from_expanded (signal_of named.net.signals s) (runs_at are.blocks s) named.net.steps (word_of plan s) (are.each s (let count = are.words in omega arith)) in
    sym (ap (λ runs. take named.net.steps (letters_of_runs (signal_of named.net.signals s) runs)) (block_runs_are named lines plan are s valid within) ∙ spell.letters)) in
    ap (λ (words : List (List Letter)). record { words = words }) (sym (fill_elements plan.words (length named.net.signals) (word_at named lines) [] are.words word))

spelled_from : (named : Named) (lines : List Line) (r : Result Plan PlanFault) → IsNamed named → Judged named 1 [] lines r → spelled_by named lines ≡ r
spelled_from named lines (Err fault) valid judged = sym (unless_begins (faults_of named lines) (plan_of named lines) fault (subst (BeginsWith fault) (sym (faults_of-in_turn named lines)) judged))
spelled_from named lines (Ok plan) valid judged =
    ap (λ faults. unless faults (plan_of named lines)) (faults_of-in_turn named lines ∙ judged.0) ∙ ap Ok (plan_of-lines named lines plan valid judged.1)

-- what a text spells is what the pass over its lines answers
pub spelled_is_scanned : (named : Named) (text : List ℕ) → IsNamed named → spelled_plan named text ≡ scanned named (lines_in text)
unfolding spelled_plan
spelled_is_scanned named text valid = spelled_from named (lines_in text) (scanned named (lines_in text)) valid (all_judged named (lines_in text) valid (lines_tail text))

-- where it is a plan, the lines are those of its runs
pub scanned_lines : (named : Named) (lines : List Line) (plan : Plan) (r : Result Plan PlanFault) → r ≡ Ok plan → Judged named 1 [] lines r → AreOf named lines plan
scanned_lines named lines plan (Err fault) is judged = absurd (cc)
scanned_lines named lines plan (Ok other) is judged = let same : other ≡ plan = cc in subst (AreOf named lines) same judged.1
