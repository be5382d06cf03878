-- Why a plan text is refused (docs/plan-file.md, "Refusals"): each line lists its faults, by what the lines before it say, and
-- the first fault of the first line that has one decides.
use Rattle.std.specs.Prelude.{ℕ, zero, suc, ◌+◌, Bool, true, false, not, ◌&&◌, nat_lt, List, [], ◌∷◌, ◌++◌, length, map, take, position, unwrap_or, slice_index_or}
use Rattle.std.specs.List.{list_any}
use Rattle.std.specs.Str.{bytes_eq}
use Rattle.listed.specs.Below.{join_below}
use Rattle.refusals.specs.Faults.{where_so}
use Rattle.ct_base.specs.Access.{signal_of}
use Rattle.traffic_model.specs.Runs.{Run}
use Rattle.phase_rules.specs.Expansion as runs
use Rattle.named_net.specs.Naming.{Named, signal_names_at}
use Rattle.plan_file.specs.Lines.{Line, Head, OfSignal, OfRun, End, Nothing}
use Rattle.plan_file.specs.declared.fault.PlanFault.{PlanFault}
use Rattle.plan_file.specs.declared.fault.PlanFault.TheVariants.{Form, Signal, Run as RunAt, Missing}

-- the line is the first of a plan file
abbrev pub is_head : Line → Bool
is_head Head = true
is_head _ = false

-- the line is the last of a plan file
abbrev pub is_end : Line → Bool
is_end End = true
is_end _ = false

-- how many blocks the lines begin
abbrev pub blocks_in : List Line → ℕ
blocks_in [] = 0
blocks_in (OfSignal name ∷ lines) = 1 + blocks_in lines
blocks_in (_ ∷ lines) = blocks_in lines

-- the number of a phase name; a name that no phase has counts as a phase more than there are
abbrev pub phase_number : List (List ℕ) → List ℕ → ℕ
phase_number names name = unwrap_or (position (bytes_eq name) names) (length names)

-- a run by the name of its phase
abbrev pub run_named : List (List ℕ) → List ℕ → ℕ → Run
run_named names phase green = record { phase = phase_number names phase; green = green }

-- the runs up to the next line that is none
abbrev pub runs_ahead : List (List ℕ) → List Line → List Run
runs_ahead names [] = []
runs_ahead names (OfRun phase green ∷ lines) = run_named names phase green ∷ runs_ahead names lines
runs_ahead names (_ ∷ lines) = []

-- the runs of block s
abbrev pub runs_in_block : List (List ℕ) → List Line → ℕ → List Run
runs_in_block names [] s = []
runs_in_block names (OfSignal name ∷ lines) zero = runs_ahead names lines
runs_in_block names (OfSignal name ∷ lines) (suc s) = runs_in_block names lines s
runs_in_block names (_ ∷ lines) s = runs_in_block names lines s

-- the runs of block s of a network's plan, as far as the lines go
abbrev pub block_runs : Named → List Line → ℕ → List Run
block_runs named lines s = runs_in_block (signal_names_at named.names s).phases lines s

-- a line of this form may stand behind these
abbrev pub may_stand : List Line → Line → Bool
may_stand [] line = is_head line
may_stand before (OfSignal name) = not (list_any is_end before)
may_stand before (OfRun phase green) = nat_lt 0 (blocks_in before) && not (list_any is_end before)
may_stand before End = not (list_any is_end before)
may_stand before Nothing = list_any is_end before
may_stand before _ = false

-- the block that is open is the last that the lines begin: its runs end before the horizon does
abbrev pub short_faults : Named → List Line → ℕ → ℕ → List PlanFault
short_faults named before n zero = []
short_faults named before n (suc s) = map (RunAt n) (runs.short_faults (signal_of named.net.signals s) (block_runs named before s) named.net.steps)

-- the faults of one run more in the open block
abbrev pub run_faults : Named → List Line → ℕ → List ℕ → ℕ → ℕ → List PlanFault
run_faults named before n phase green zero = []
run_faults named before n phase green (suc s) =
    let ran = block_runs named before s in
    map (RunAt n) (runs.faults_at (signal_of named.net.signals s) (ran ++ run_named (signal_names_at named.names s).phases phase green ∷ []) named.net.steps (length ran))

-- the next signal has another name, or there is none
abbrev pub signal_faults : Named → ℕ → List ℕ → ℕ → List PlanFault
signal_faults named n name s = where_so (not (nat_lt s (length named.net.signals) && bytes_eq name (signal_names_at named.names s).name)) (Signal n)

-- the faults of the line with number n, of a form that may stand behind the lines before it
abbrev pub faults_by : Named → List Line → ℕ → Line → List PlanFault
faults_by named before n (OfSignal name) = short_faults named before n (blocks_in before) ++ signal_faults named n name (blocks_in before)
faults_by named before n (OfRun phase green) = run_faults named before n phase green (blocks_in before)
faults_by named before n End = short_faults named before n (blocks_in before) ++ where_so (nat_lt (blocks_in before) (length named.net.signals)) (Missing (blocks_in before))
faults_by named before n _ = []

-- the faults of the line at place i, whose number is i + 1
abbrev pub faults_at : Named → List Line → ℕ → List PlanFault
faults_at named lines i =
    where_so (not (may_stand (take i lines) (slice_index_or lines i Nothing))) (Form (i + 1))
    ++ faults_by named (take i lines) (i + 1) (slice_index_or lines i Nothing)

-- all faults of a text's lines
unfoldable pub faults_of : Named → List Line → List PlanFault
faults_of named lines = join_below (length lines) (faults_at named lines)
