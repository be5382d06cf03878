-- The blocks of an admissible plan, which its text lists (docs/plan-file.md).
use Rattle.std.specs.Prelude.{ℕ, List, ◌++◌, map, codes}
use Rattle.listed.specs.Below.{join_below}
use Rattle.ct_base.specs.declared.plan.Letter.{Letter}
use Rattle.ct_base.specs.declared.plan.Plan.{Plan}
use Rattle.traffic_model.specs.Runs.{Run}
use Rattle.phase_rules.specs.Expansion.{run_by}
use Rattle.phase_rules.specs.inner.Greens.{greens_of}
use Rattle.named_net.specs.Naming.{NameTable, signal_names_at}
use Rattle.plan_file.specs.PlanText.{block_text, runs_at}

-- the runs of a word
abbrev pub runs_of : List Letter → List Run
runs_of word = map run_by (greens_of word)

-- the runs of each word of a plan
abbrev pub blocks_of : Plan → List (List Run)
blocks_of plan = map runs_of plan.words

-- the text of the first line and the first n blocks
abbrev pub text_below : NameTable → Plan → ℕ → List ℕ
text_below names plan n = codes "ctm-plan 1\n" ++ join_below n (λ s. block_text (signal_names_at names s) (runs_at (blocks_of plan) s))
