-- What the reader keeps: the runs of the open block are counted and have no fault, and what follows from a line's step.
use Rattle.std.proofs.Common.{◌≡◌, ◌≢◌, inl, inr, ℕ, ◌+◌, ◌<◌, ◌≤◌, true, false, List, [], ◌∷◌, ◌++◌, length, map, get_or, take, Result, Ok, Err, refl, sym, ap, subst, ◌∙◌, arith}
use Rattle.std.specs.Prelude.{⊤, not, ◌&&◌, nat_lt, ◌==◌}
use Rattle.std.specs.Str.{bytes_eq}
use Rattle.std.proofs.lemmas.Bool.{eqb-true, true≢false}
use Rattle.std.proofs.lemmas.List.{get_or_push, length-map, length_push, map-append, take_at}
use Rattle.listed.specs.Below.{join_below, sum_below}
use Rattle.refusals.specs.Faults.{unless, where_so}
use Rattle.refusals.specs.Memory.{OrMemory}
use Rattle.refusals.proofs.FirstFaults.{unless_fine}
use Rattle.ct_base.specs.Access.{phase_of, signal_of}
use Rattle.ct_base.specs.declared.plan.Letter.{Letter}
use Rattle.ct_base.specs.declared.plan.Plan.{Plan}
use Rattle.ct_base.specs.declared.signal.Signal.{Signal}
use Rattle.traffic_model.specs.Runs.{Run}
use Rattle.phase_rules.specs.Expansion.{begins_at, faults_at, length_of_run, run_by}
use Rattle.phase_rules.proofs.JudgeLaws.{begins_at_front, counted_more, run_counts}
use Rattle.texts.specs.Lines.{IsFirstLine, IsNoLine}
use Rattle.named_net.specs.Naming.{Named, signal_names_at}
use Rattle.plan_file.specs.Lines.{Line, Head, OfSignal, OfRun, End, Other, Nothing, Cut, ending, line_of, lines_in}
use Rattle.plan_file.specs.inner.Scan.{Progress, after_end, and_then, begun, scan, stepped}
use Rattle.plan_file.specs.Refusals.{is_end}
use Rattle.plan_file.specs.inner.State.{IsReading, Tells, said}
use Rattle.plan_file.specs.declared.fault.PlanFault.{PlanFault}
use Rattle.plan_file.specs.declared.fault.PlanFault.TheVariants.{Form, Signal as SignalAt, Run as RunAt, Missing, Memory}
use Rattle.plan_file.specs.declared.line.Line as read
use Rattle.plan_file.specs.declared.line.Line.TheVariants as read_lines
use Rattle.plan_file.specs.declared.reading.Reading.{Reading}
use Rattle.plan_file.proofs.LineLaws.{lines_in-first, lines_in-none, no_lines, text_is}
use Rattle.plan_file.proofs.RunLaws.{AreFine, fine_more}
use Rattle.plan_file.proofs.TailLaws.{IsTail, lines_tail}

-- ---- no run

pub idle_is_reading : (named : Named) (reading : Reading) → reading.runs.items ≡ [] → reading.letters ≡ 0 → (reading.is_open ≡ true → length reading.words < length named.net.signals) → IsReading named reading
unfolding sum_below join_below
idle_is_reading named reading none no_letters within =
    let signal : Signal = signal_of named.net.signals (length reading.words) in
    record {
      letters = no_letters ∙ ap (λ (runs : List (ℕ × ℕ)). begins_at signal (map run_by runs) (length runs)) (sym none);
      few = (let count = ap length none in omega arith);
      low = omega arith;
      fine = ap (λ (runs : List (ℕ × ℕ)). join_below (length (map run_by runs)) (faults_at signal (map run_by runs) named.net.steps)) none;
      within = within;
      idle = λ closed. none;
    }

-- ---- a run

-- the letters of one run more
letters_more : (signal : Signal) (runs : List (ℕ × ℕ)) (run : ℕ × ℕ) (letters clear : ℕ) → letters ≡ begins_at signal (map run_by runs) (length runs) → clear ≡ (phase_of signal run.0).clear →
    letters + (run.1 + clear) ≡ begins_at signal (map run_by (runs ++ run ∷ [])) (length (runs ++ run ∷ []))
letters_more signal runs run letters clear counted is =
    let n : ℕ = length runs in
    let more : List (ℕ × ℕ) = runs ++ run ∷ [] in
    let long : length more ≡ n + 1 = length_push runs run in
    let front : take n more ≡ runs = take_at runs (run ∷ []) n refl in
    let before : letters ≡ begins_at signal (map run_by more) n =
    counted ∙ ap (λ (runs : List (ℕ × ℕ)). begins_at signal (map run_by runs) (length runs)) (sym front) ∙ begins_at_front signal more n (omega arith) in
    let last : get_or more n (0, 0) ≡ run = get_or_push runs run (0, 0) n refl in
    let own : letters + length_of_run signal (run_by run) ≡ letters + (run.1 + clear) = ap (λ c. letters + (run.1 + c)) (sym is) in
    sym own ∙ ap (λ (run : ℕ × ℕ). letters + length_of_run signal (run_by run)) (sym last)
    ∙ counted_more signal more n letters (omega arith) before ∙ ap (begins_at signal (map run_by more)) (sym long)

-- a run without a fault is one of the open block
pub run_is_taken : (named : Named) (reading next : Reading) (run : ℕ × ℕ) (clear : ℕ) → IsReading named reading → reading.is_open ≡ true →
    faults_at (signal_of named.net.signals (length reading.words)) (map run_by (reading.runs.items ++ run ∷ [])) named.net.steps (length reading.runs.items) ≡ [] →
    clear ≡ (phase_of (signal_of named.net.signals (length reading.words)) run.0).clear → clear ≤ 20 →
    next.words ≡ reading.words → next.is_open ≡ true → next.runs.items ≡ reading.runs.items ++ run ∷ [] → next.letters ≡ reading.letters + (run.1 + clear) → IsReading named next
run_is_taken named reading next run clear is opened none cleared short words still runs letters =
    let signal : Signal = signal_of named.net.signals (length reading.words) in
    let same : signal_of named.net.signals (length next.words) ≡ signal = ap (λ (words : List (List Letter)). signal_of named.net.signals (length words)) words in
    let more : List (ℕ × ℕ) = reading.runs.items ++ run ∷ [] in
    let n : ℕ = length reading.runs.items in
    let long : length more ≡ n + 1 = length_push reading.runs.items run in
    let front : take n more ≡ reading.runs.items = take_at reading.runs.items (run ∷ []) n refl in
    let before : reading.letters ≡ begins_at signal (map run_by more) n =
    is.letters ∙ ap (λ (runs : List (ℕ × ℕ)). begins_at signal (map run_by runs) (length runs)) (sym front) ∙ begins_at_front signal more n (omega arith) in
    let last : get_or more n (0, 0) ≡ run = get_or_push reading.runs.items run (0, 0) n refl in
    let counts = run_counts signal more named.net.steps n reading.letters (omega arith) none before in
    let some : 0 < run.1 = subst (λ (run : ℕ × ℕ). 0 < run.1) last counts.0 in
    let inside : reading.letters + run.1 ≤ named.net.steps = subst (λ (run : ℕ × ℕ). reading.letters + run.1 ≤ named.net.steps) last counts.1 in
    let joined : map run_by more ≡ map run_by reading.runs.items ++ run_by run ∷ [] = map-append run_by reading.runs.items (run ∷ []) in
    let count : length (map run_by reading.runs.items) ≡ n = length-map reading.runs.items run_by in
    let fine : AreFine signal (map run_by more) named.net.steps =
    subst (λ runs. AreFine signal runs named.net.steps) (sym joined)
    (fine_more signal (map run_by reading.runs.items) (run_by run) named.net.steps is.fine
    (ap (λ runs. faults_at signal runs named.net.steps (length (map run_by reading.runs.items))) (sym joined) ∙ ap (faults_at signal (map run_by more) named.net.steps) count ∙ none)) in
    record {
      letters = letters ∙ letters_more signal reading.runs.items run reading.letters clear is.letters cleared
          ∙ ap (λ (runs : List (ℕ × ℕ)). begins_at signal (map run_by runs) (length runs)) (sym runs)
          ∙ ap (λ signal. begins_at signal (map run_by next.runs.items) (length next.runs.items)) (sym same);
      few = (let few = is.few in let counted = ap length runs in omega arith);
      low = omega arith;
      fine = ap (λ signal. join_below (length (map run_by next.runs.items)) (faults_at signal (map run_by next.runs.items) named.net.steps)) same
          ∙ ap (λ (runs : List (ℕ × ℕ)). join_below (length (map run_by runs)) (faults_at signal (map run_by runs) named.net.steps)) runs ∙ fine;
      within = λ open_still. (let count = ap length words in let within = is.within opened in omega arith);
      idle = λ closed. absurd (cc);
    }

-- a judged run has no fault
pub judged_is_fine : (signal told : Signal) (runs shown : List (ℕ × ℕ)) (run : ℕ × ℕ) (steps horizon : ℕ) → told ≡ signal → shown ≡ runs → horizon ≡ steps →
    Ok tt ≡ unless {X = ⊤} (faults_at told (map run_by (shown ++ run ∷ [])) horizon (length shown)) tt → faults_at signal (map run_by (runs ++ run ∷ [])) steps (length runs) ≡ []
judged_is_fine signal told runs shown run steps horizon same_signal same_runs same_steps fine =
    sym (ap (λ told. faults_at told (map run_by (shown ++ run ∷ [])) horizon (length shown)) same_signal
    ∙ ap (λ (runs : List (ℕ × ℕ)). faults_at signal (map run_by (runs ++ run ∷ [])) horizon (length runs)) same_runs
    ∙ ap (λ steps. faults_at signal (map run_by (runs ++ run ∷ [])) steps (length runs)) same_steps)
    ∙ unless_fine (faults_at told (map run_by (shown ++ run ∷ [])) horizon (length shown)) tt tt fine

-- ---- the next block

pub block_is_begun : (named : Named) (n : ℕ) (name : List ℕ) (r : Result Progress PlanFault) (progress : Progress) (count : ℕ) (runs : List Run) → r ≡ Ok progress → count ≡ length progress.words →
    true ≡ (nat_lt count (length named.net.signals) && bytes_eq name (signal_names_at named.names count).name) →
    runs ≡ [] → and_then r (begun named n name) ≡ Ok (record { words = progress.words; is_open = true; runs = runs })
block_is_begun named n name r progress count runs is counted own none =
    let same : (nat_lt (length progress.words) (length named.net.signals) && bytes_eq name (signal_names_at named.names (length progress.words)).name) ≡ true =
    ap (λ (s : ℕ). nat_lt s (length named.net.signals) && bytes_eq name (signal_names_at named.names s).name) (sym counted) ∙ sym own in
    ap (λ r. and_then r (begun named n name)) is
    ∙ ap (λ own. unless (where_so (not own) (SignalAt n)) (record { words = progress.words; is_open = true; runs = [] })) same
    ∙ ap (λ (runs : List Run). Ok (record { words = progress.words; is_open = true; runs = runs })) (sym none)

-- ---- behind the end

pub nothing_behind : (n : ℕ) (progress : Progress) (behind : List ℕ) → (length behind == 0) ≡ true → after_end n progress (lines_in behind) ≡ Ok (record { words = progress.words })
nothing_behind n progress [] none = ap (after_end n progress) no_lines
nothing_behind n progress (byte ∷ bytes) none = absurd (let count = eqb-true (length (byte ∷ bytes)) 0 none in omega arith)

-- a line that is not nothing
not_nothing : (n : ℕ) (progress : Progress) (behind : List ℕ) (lines : List Line) → lines_in behind ≡ lines → IsTail lines → 0 < length behind → after_end n progress lines ≡ Err (Form n)
not_nothing n progress behind [] is tail some = absurd tail
not_nothing n progress behind (Nothing ∷ next ∷ lines) is tail some = absurd tail.0
not_nothing n progress behind (Nothing ∷ []) is tail some = absurd (let none = ap length (text_is behind [] is refl) in omega arith)
not_nothing n progress behind (Head ∷ lines) is tail some = refl
not_nothing n progress behind (OfSignal name ∷ lines) is tail some = refl
not_nothing n progress behind (OfRun phase green ∷ lines) is tail some = refl
not_nothing n progress behind (End ∷ lines) is tail some = refl
not_nothing n progress behind (Other ∷ lines) is tail some = refl
not_nothing n progress behind (Cut ∷ lines) is tail some = refl

pub something_behind : (n : ℕ) (progress : Progress) (behind : List ℕ) → (length behind == 0) ≡ false → after_end n progress (lines_in behind) ≡ Err (Form n)
something_behind n progress [] some = absurd (true≢false some)
something_behind n progress (byte ∷ bytes) some = not_nothing n progress (byte ∷ bytes) (lines_in (byte ∷ bytes)) refl (lines_tail (byte ∷ bytes)) (omega arith)

-- ---- one line more of the pass

pub scan_line : (named : Named) (n : ℕ) (progress : Progress) (line : Line) (lines : List Line) → is_end line ≡ false →
    scan named n progress (line ∷ lines) ≡ and_then (stepped named n progress line) (λ progress. scan named (n + 1) progress lines)
scan_line named n progress End lines other = absurd (cc)
scan_line named n progress Head lines other = refl
scan_line named n progress (OfSignal name) lines other = refl
scan_line named n progress (OfRun phase green) lines other = refl
scan_line named n progress Other lines other = refl
scan_line named n progress Nothing lines other = refl
scan_line named n progress Cut lines other = refl

-- no line is left
pub scan_last : (named : Named) (n : ℕ) (progress : Progress) (text : List ℕ) → scan named n progress (ending text ∷ []) ≡ Err (Form n)
scan_last named n progress [] = refl
scan_last named n progress (byte ∷ bytes) = refl

-- ---- from a line that is cut off to what all lines come to

-- a text that is cut at its first line feed begins with a line
pub rest_is : (named : Named) (n : ℕ) (progress : Progress) (rest bytes behind : List ℕ) (line : Line) (whole : Result Plan PlanFault) → IsFirstLine rest bytes behind → line ≡ line_of bytes →
    scan named n progress (lines_in rest) ≡ whole → scan named n progress (line ∷ lines_in behind) ≡ whole
rest_is named n progress rest bytes behind line whole first line_is same =
    ap (scan named n progress) (ap (λ line. line ∷ lines_in behind) line_is ∙ sym (lines_in-first rest bytes behind first)) ∙ same

-- a refusal of a line is that of the whole
pub refusal_is_whole : (fault : PlanFault) (told : Result Progress PlanFault) (next : Progress) (go_on : Progress → Result Plan PlanFault) (whole : Result Plan PlanFault) →
    Tells (Err fault) told next → and_then told go_on ≡ whole → OrMemory Memory whole (Err fault)
refusal_is_whole (Form n) told next go_on whole tells same = inl (sym (ap (λ told. and_then told go_on) tells) ∙ same)
refusal_is_whole (SignalAt n) told next go_on whole tells same = inl (sym (ap (λ told. and_then told go_on) tells) ∙ same)
refusal_is_whole (RunAt n fault) told next go_on whole tells same = inl (sym (ap (λ told. and_then told go_on) tells) ∙ same)
refusal_is_whole (Missing s) told next go_on whole tells same = inl (sym (ap (λ told. and_then told go_on) tells) ∙ same)
refusal_is_whole Memory told next go_on whole tells same = inr refl

-- a line is not the end where the reader's is not
pub said_is_no_end : (line : read.Line) → line ≢ read_lines.End → is_end (said line) ≡ false
said_is_no_end read_lines.Head other = refl
said_is_no_end (read_lines.OfSignal name) other = refl
said_is_no_end (read_lines.OfRun phase green) other = refl
said_is_no_end read_lines.End other = absurd (other refl)
said_is_no_end read_lines.Other other = refl

-- without a line feed there is no further line
pub no_line_left : (named : Named) (n : ℕ) (progress : Progress) (text : List ℕ) → IsNoLine text → scan named n progress (lines_in text) ≡ Err (Form n)
no_line_left named n progress text none = ap (scan named n progress) (lines_in-none text none) ∙ scan_last named n progress text

-- a line's step, and the pass over those behind it
pub line_is_taken : (named : Named) (n : ℕ) (progress : Progress) (rest bytes behind : List ℕ) (line : read.Line) (whole : Result Plan PlanFault) → IsFirstLine rest bytes behind → said line ≡ line_of bytes → line ≢ read_lines.End →
    scan named n progress (lines_in rest) ≡ whole → and_then (stepped named n progress (said line)) (λ progress. scan named (n + 1) progress (lines_in behind)) ≡ whole
line_is_taken named n progress rest bytes behind line whole cut line_is other same =
    sym (scan_line named n progress (said line) (lines_in behind) (said_is_no_end line other)) ∙ rest_is named n progress rest bytes behind (said line) whole cut line_is same
