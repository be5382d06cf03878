-- The plan that the bytes of a file spell, or the first refusal (docs/plan-file.md).
use Rattle.std.specs.Prelude.{ℕ, List, length, take, Result}
use Rattle.refusals.specs.Faults.{unless}
use Rattle.ct_base.specs.Access.{signal_of}
use Rattle.listed.specs.Below.{table_of}
use Rattle.ct_base.specs.declared.plan.Letter.{Letter}
use Rattle.ct_base.specs.declared.plan.Plan.{Plan}
use Rattle.traffic_model.specs.Runs.{letters_of_runs}
use Rattle.named_net.specs.Naming.{Named}
use Rattle.plan_file.specs.Lines.{Line, lines_in}
use Rattle.plan_file.specs.Refusals.{block_runs, faults_of}
use Rattle.plan_file.specs.declared.fault.PlanFault.{PlanFault}

-- the word of block s: the letters of its runs inside the horizon
abbrev pub word_at : Named → List Line → ℕ → List Letter
word_at named lines s = take named.net.steps (letters_of_runs (signal_of named.net.signals s) (block_runs named lines s))

-- the plan of the lines: a word for each signal
abbrev pub plan_of : Named → List Line → Plan
plan_of named lines = record { words = table_of (length named.net.signals) (word_at named lines) }

-- the plan of the lines, or the first fault
abbrev pub spelled_by : Named → List Line → Result Plan PlanFault
spelled_by named lines = unless (faults_of named lines) (plan_of named lines)

-- the plan that a text spells for a network, or the first fault
unfoldable pub spelled_plan : Named → List ℕ → Result Plan PlanFault
spelled_plan named text = spelled_by named (lines_in text)
