-- The lines of a plan text, written out: the bytes of each line, and the lines of a plan's blocks.
use Rattle.std.specs.Prelude.{◌≡◌, ℕ, Bool, true, false, ◌&&◌, nat_lt, List, [], ◌∷◌, ◌++◌, length, map, flat_map, Ok, codes, slice_index_or, EachIndex}
use Rattle.std.specs.Fmt.{decimal}
use Rattle.listed.specs.Below.{join_below}
use Rattle.ct_base.specs.Access.{signal_of}
use Rattle.ct_base.specs.declared.plan.Plan.{Plan}
use Rattle.traffic_model.specs.Runs.{Run, word_of}
use Rattle.phase_rules.specs.Expansion.{expanded}
use Rattle.texts.specs.Names.{is_name}
use Rattle.named_net.specs.Naming.{Named, NameTable, signal_names_at}
use Rattle.named_net.specs.declared.names.SignalNames.{SignalNames}
use Rattle.plan_file.specs.Lines.{Line, Head, OfSignal, OfRun, End, Nothing}
use Rattle.plan_file.specs.PlanText.{runs_at}

-- the bytes of a line, without its line feed
abbrev pub bytes_of : Line → List ℕ
bytes_of Head = codes "ctm-plan 1"
bytes_of (OfSignal name) = codes "signal" ++ 32 ∷ name
bytes_of (OfRun phase green) = phase ++ 32 ∷ decimal green
bytes_of End = codes "end"
bytes_of _ = []

-- the line with its line feed, and the text of some lines
abbrev pub full_of : Line → List ℕ
full_of line = bytes_of line ++ 10 ∷ []

abbrev pub text_of : List Line → List ℕ
text_of lines = flat_map full_of lines

-- a line of one of the four forms, with a name in the place of a name and a number of at most 4 digits in that of a number
abbrev pub is_good : Line → Bool
is_good Head = true
is_good (OfSignal name) = is_name name
is_good (OfRun phase green) = is_name phase && nat_lt green 10000
is_good End = true
is_good _ = false

-- the lines of a block
abbrev pub run_line : SignalNames → Run → Line
run_line names run = OfRun (slice_index_or names.phases run.phase []) run.green

abbrev pub block_lines : SignalNames → List Run → List Line
block_lines names runs = OfSignal names.name ∷ map (run_line names) runs

-- the lines of block s, and of the first n blocks
abbrev pub lines_at : NameTable → List (List Run) → ℕ → List Line
lines_at names blocks s = block_lines (signal_names_at names s) (runs_at blocks s)

abbrev pub lines_below : NameTable → List (List Run) → ℕ → List Line
lines_below names blocks n = join_below n (lines_at names blocks)

-- the lines of a plan's blocks, all but what stands behind the last line feed
abbrev pub plan_lines : NameTable → List (List Run) → ℕ → List Line
plan_lines names blocks n = Head ∷ (lines_below names blocks n ++ End ∷ [])

-- the lines are those of runs that become the plan's words
pub record AreOf (named : Named) (lines : List Line) (plan : Plan) : Type 0 where
  pub blocks : List (List Run)
  pub one_per_signal : length blocks ≡ length named.net.signals
  pub written : lines ≡ plan_lines named.names blocks (length named.net.signals) ++ Nothing ∷ []
  pub words : length plan.words ≡ length named.net.signals
  pub each : EachIndex plan.words (λ s. expanded (signal_of named.net.signals s) (runs_at blocks s) named.net.steps ≡ Ok (word_of plan s))
