-- What the reader's values stand for: lines, and the blocks read so far.
use Rattle.std.specs.Prelude.{◌≡◌, ℕ, ◌+◌, ◌<◌, ◌≤◌, true, false, List, [], length, map, Result, Ok, Err, ⊤}
use Rattle.listed.specs.Below.{join_below}
use Rattle.phase_rules.specs.Expansion.{begins_at, faults_at, run_by}
use Rattle.named_net.specs.Naming.{Named}
use Rattle.plan_file.specs.Lines as lines
use Rattle.ct_base.specs.declared.plan.Letter.{Letter}
use Rattle.phase_rules.specs.declared.fault.RunFault.{RunFault}
use Rattle.plan_file.specs.inner.Scan.{Progress, current}
use Rattle.plan_file.specs.declared.fault.PlanFault.{PlanFault}
use Rattle.plan_file.specs.declared.fault.PlanFault.TheVariants.{Run, Memory}
use Rattle.plan_file.specs.declared.reading.Reading.{Reading}
use Rattle.plan_file.specs.declared.line.Line.{Line}
use Rattle.plan_file.specs.declared.line.Line.TheVariants.{Head, OfSignal, OfRun, End, Other}

-- what a line says
abbrev pub said : Line → lines.Line
said Head = lines.Head
said (OfSignal name) = lines.OfSignal name.now
said (OfRun phase green) = lines.OfRun phase.now green
said End = lines.End
said Other = lines.Other

-- the blocks read so far
abbrev pub progress_of : Reading → Progress
progress_of reading = record { words = reading.words; is_open = reading.is_open; runs = map run_by reading.runs.items }

-- the runs of the open block are counted, and have no fault
pub record IsReading (named : Named) (reading : Reading) : Type 0 where
  pub letters : reading.letters ≡ begins_at (current named (progress_of reading)) (map run_by reading.runs.items) (length reading.runs.items)
  pub few : length reading.runs.items ≤ reading.letters
  pub low : reading.letters ≤ named.net.steps + 20
  pub fine : join_below (length (map run_by reading.runs.items)) (faults_at (current named (progress_of reading)) (map run_by reading.runs.items) named.net.steps) ≡ []
  pub within : reading.is_open ≡ true → length reading.words < length named.net.signals
  pub idle : reading.is_open ≡ false → reading.runs.items ≡ []

-- an answer is that a line may stand, and what the lines then come to, or why not; want of memory says nothing
abbrev pub Tells : Result ⊤ PlanFault → Result Progress PlanFault → Progress → Type 0
Tells (Err Memory) told progress = Unit {0}
Tells (Ok fine) told progress = told ≡ Ok progress
Tells (Err fault) told progress = told ≡ Err fault

-- an answer is the word of a block, or its fault at a line; want of memory says nothing
abbrev pub TellsWord : ℕ → Result (List Letter) PlanFault → Result (List Letter) RunFault → Type 0
TellsWord n (Ok word) told = told ≡ Ok word
TellsWord n (Err Memory) told = Unit {0}
TellsWord n (Err (Run line fault)) told = (line ≡ n) × (told ≡ Err fault)
TellsWord n (Err fault) told = ⊥
