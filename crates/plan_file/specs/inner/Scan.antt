-- One pass over the lines of a plan text: what the lines so far come to, and what one line more makes of it
-- (docs/plan-file.md, "Reading").
use Rattle.std.specs.Prelude.{ℕ, ◌+◌, Bool, true, false, nat_lt, if◌then◌else◌, List, [], ◌∷◌, ◌++◌, length, map, Result, Ok, Err}
use Rattle.refusals.specs.Faults.{unless, where_so}
use Rattle.ct_base.specs.Access.{signal_of}
use Rattle.ct_base.specs.declared.plan.Letter.{Letter}
use Rattle.ct_base.specs.declared.plan.Plan.{Plan}
use Rattle.ct_base.specs.declared.signal.Signal.{Signal}
use Rattle.traffic_model.specs.Runs.{Run}
use Rattle.phase_rules.specs.Expansion as runs
use Rattle.phase_rules.specs.declared.fault.RunFault.{RunFault}
use Rattle.named_net.specs.Naming.{Named, signal_names_at}
use Rattle.plan_file.specs.Lines.{Line, Head, OfSignal, OfRun, End, Nothing}
use Rattle.plan_file.specs.Refusals.{run_named, signal_faults}
use Rattle.plan_file.specs.declared.fault.PlanFault.{PlanFault}
use Rattle.plan_file.specs.declared.fault.PlanFault.TheVariants.{Form, Run as RunAt, Missing}

-- what the lines so far come to: the words of the closed blocks, whether a block is open, and its runs
pub record Progress : Type 0 where
  pub words : List (List Letter)
  pub is_open : Bool
  pub runs : List Run

-- the signal of the block that is open, or that comes next
abbrev pub current : Named → Progress → Signal
current named progress = signal_of named.net.signals (length progress.words)

-- go on where there was no fault
abbrev pub and_then : {X Y E : Type 0} → Result X E → (X → Result Y E) → Result Y E
and_then (Ok x) next = next x
and_then (Err fault) next = Err fault

-- the block that is open becomes a word, or its fault is that of a line
abbrev pub with_word : ℕ → List (List Letter) → Result (List Letter) RunFault → Result Progress PlanFault
with_word n words (Ok word) = Ok (record { words = words ++ word ∷ []; is_open = false; runs = [] })
with_word n words (Err fault) = Err (RunAt n fault)

-- the open block, where there is one, is ended and becomes a word
abbrev pub closed : Named → ℕ → Progress → Result Progress PlanFault
closed named n progress =
    if progress.is_open
    then with_word n progress.words (runs.expanded (current named progress) progress.runs named.net.steps)
    else Ok progress

-- the next block begins
abbrev pub begun : Named → ℕ → List ℕ → Progress → Result Progress PlanFault
begun named n name progress = unless (signal_faults named n name (length progress.words)) (record { words = progress.words; is_open = true; runs = [] })

-- the runs of the open block, and one run more
abbrev pub with_run : Named → Progress → List ℕ → ℕ → List Run
with_run named progress phase green = progress.runs ++ run_named (signal_names_at named.names (length progress.words)).phases phase green ∷ []

-- a run is added to the open block; a run outside a block is a line of no form
abbrev pub ran : Named → ℕ → List ℕ → ℕ → Progress → Result Progress PlanFault
ran named n phase green progress =
    if progress.is_open
    then unless (map (RunAt n) (runs.faults_at (current named progress) (with_run named progress phase green) named.net.steps (length progress.runs)))
    (record { words = progress.words; is_open = true; runs = with_run named progress phase green })
    else Err (Form n)

-- one line more, which is not `end`
abbrev pub stepped : Named → ℕ → Progress → Line → Result Progress PlanFault
stepped named n progress (OfSignal name) = and_then (closed named n progress) (begun named n name)
stepped named n progress (OfRun phase green) = ran named n phase green progress
stepped named n progress _ = Err (Form n)

-- behind the line `end`
abbrev pub after_end : ℕ → Progress → List Line → Result Plan PlanFault
after_end n progress (Nothing ∷ lines) = Ok (record { words = progress.words })
after_end n progress _ = Err (Form n)

-- a block for each signal
abbrev pub whole : Named → ℕ → Progress → Result Progress PlanFault
whole named n progress = unless (where_so (nat_lt (length progress.words) (length named.net.signals)) (Missing (length progress.words))) progress

-- the line `end`
abbrev pub ended : Named → ℕ → Progress → Result Progress PlanFault
ended named n progress = and_then (closed named n progress) (whole named n)

-- the lines that are left, of which the first has a number
abbrev pub scan : Named → ℕ → Progress → List Line → Result Plan PlanFault
scan named n progress [] = Err (Form n)
scan named n progress (End ∷ lines) = and_then (ended named n progress) (λ progress. after_end (n + 1) progress lines)
scan named n progress (line ∷ lines) = and_then (stepped named n progress line) (λ progress. scan named (n + 1) progress lines)

-- no line but the first
abbrev pub at_first : Progress
at_first = record { words = []; is_open = false; runs = [] }

-- all lines
abbrev pub scanned : Named → List Line → Result Plan PlanFault
scanned named (Head ∷ lines) = scan named 2 at_first lines
scanned named _ = Err (Form 1)
