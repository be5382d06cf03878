-- The one text of a plan (docs/plan-file.md): line 1, a block for each signal in its order, and `end`.
use Rattle.std.specs.Prelude.{◌≡◌, ℕ, List, [], ◌++◌, length, flat_map, Ok, codes, slice_index_or, EachIndex}
use Rattle.std.specs.Fmt.{decimal}
use Rattle.listed.specs.Below.{join_below}
use Rattle.ct_base.specs.Access.{signal_of}
use Rattle.ct_base.specs.declared.plan.Plan.{Plan}
use Rattle.traffic_model.specs.Runs.{Run, word_of}
use Rattle.phase_rules.specs.Expansion.{expanded}
use Rattle.named_net.specs.Naming.{Named, NameTable, signal_names_at}
use Rattle.named_net.specs.declared.names.SignalNames.{SignalNames}

-- `PHASE GREEN`
abbrev pub run_text : SignalNames → Run → List ℕ
run_text names run = slice_index_or names.phases run.phase [] ++ codes " " ++ decimal run.green ++ codes "\n"

-- `signal NAME`, and the lines of its runs
abbrev pub block_text : SignalNames → List Run → List ℕ
block_text names runs = codes "signal " ++ names.name ++ codes "\n" ++ flat_map (run_text names) runs

-- the runs of signal s
abbrev pub runs_at : List (List Run) → ℕ → List Run
runs_at blocks s = slice_index_or blocks s []

-- the text of the runs of all signals: line 1, the blocks in the order of the signals, and `end`
unfoldable pub text_by : NameTable → List (List Run) → List ℕ
text_by names blocks = codes "ctm-plan 1\n" ++ join_below (length names.signals) (λ s. block_text (signal_names_at names s) (runs_at blocks s)) ++ codes "end\n"

-- the text spells the plan: it is that of some runs, which become the plan's words
pub record Spells (named : Named) (text : List ℕ) (plan : Plan) : Type 0 where
  pub blocks : List (List Run)
  pub one_per_signal : length blocks ≡ length named.net.signals
  pub spelled : text ≡ text_by named.names blocks
  pub words : length plan.words ≡ length named.net.signals
  pub each : EachIndex plan.words (λ s. expanded (signal_of named.net.signals s) (runs_at blocks s) named.net.steps ≡ Ok (word_of plan s))
