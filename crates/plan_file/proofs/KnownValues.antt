-- Plan texts that were worked by hand (docs/plan-file.md, "A worked example"), which the definitions compute.
use Rattle.std.proofs.Common.{◌≡◌, [], ◌∷◌, Ok, Err, refl}
use Rattle.std.specs.Prelude.{codes}
use Rattle.std.specs.Fmt.{digits}
use Rattle.listed.specs.Below.{join_below, sum_below, table_of}
use Rattle.ct_base.specs.declared.plan.Letter.TheVariants.{Green}
use Rattle.phase_rules.specs.declared.fault.RunFault.TheVariants as faults
use Rattle.texts.specs.Lines.{behind_lines, lines_of}
use Rattle.named_net.specs.Naming.{Named}
use Rattle.plan_file.specs.Lines.{Head, OfRun, Other, Cut, lines_in}
use Rattle.plan_file.specs.PlanText.{text_by}
use Rattle.plan_file.specs.Refusals.{faults_of}
use Rattle.plan_file.specs.Spelled.{spelled_plan}
use Rattle.plan_file.specs.declared.fault.PlanFault.TheVariants.{Form, Signal, Run, Missing}

-- three steps, and a signal s with phases a and b of 1 or 2 steps, of which each follows the other; the cells do not matter
abbrev pub two_phases : Named
two_phases = record {
  net = record {
    steps = 3;
    cells = [];
    signals = (record { start = 0; phases = (record { min = 1; max = 2; clear = 0; next = 2 }) ∷ (record { min = 1; max = 2; clear = 0; next = 1 }) ∷ [] }) ∷ [];
  };
  names = record { links = []; signals = (record { name = codes "s"; phases = codes "a" ∷ codes "b" ∷ [] }) ∷ []; places = [] };
}

-- a text as its lines
pub some_lines : lines_in (codes "ctm-plan 1\nsignal 12\nx y z\nend") ≡ Head ∷ OfRun (codes "signal") 12 ∷ Other ∷ Cut ∷ []
unfolding lines_in lines_of behind_lines
some_lines = refl

-- the first plan
pub the_first_plan : spelled_plan two_phases (codes "ctm-plan 1\nsignal s\na 1\nb 1\na 1\nend\n") ≡ Ok (record { words = (Green 0 ∷ Green 1 ∷ Green 0 ∷ []) ∷ [] })
unfolding spelled_plan lines_in lines_of behind_lines faults_of join_below sum_below table_of
the_first_plan = refl

-- the text of its runs
pub the_text_of_its_runs : text_by two_phases.names (((record { phase = 0; green = 1 }) ∷ (record { phase = 1; green = 1 }) ∷ (record { phase = 0; green = 1 }) ∷ []) ∷ []) ≡ codes "ctm-plan 1\nsignal s\na 1\nb 1\na 1\nend\n"
unfolding text_by join_below digits
the_text_of_its_runs = refl

-- no block, another signal, a wrong start
pub nothing_but_the_end : spelled_plan two_phases (codes "ctm-plan 1\nend\n") ≡ Err (Missing 0)
unfolding spelled_plan lines_in lines_of behind_lines faults_of join_below sum_below table_of
nothing_but_the_end = refl

pub another_signal : spelled_plan two_phases (codes "ctm-plan 1\nsignal t\n") ≡ Err (Signal 2)
unfolding spelled_plan lines_in lines_of behind_lines faults_of join_below sum_below table_of
another_signal = refl

pub a_wrong_start : spelled_plan two_phases (codes "ctm-plan 1\nsignal s\nb 1\n") ≡ Err (Run 3 faults.Start)
unfolding spelled_plan lines_in lines_of behind_lines faults_of join_below sum_below table_of
a_wrong_start = refl

-- a phase that the signal does not have follows no other
pub an_unknown_phase : spelled_plan two_phases (codes "ctm-plan 1\nsignal s\na 1\nc 1\n") ≡ Err (Run 4 (faults.Order 1))
unfolding spelled_plan lines_in lines_of behind_lines faults_of join_below sum_below table_of
an_unknown_phase = refl

-- two letters of three, and a run too many
pub a_block_too_short : spelled_plan two_phases (codes "ctm-plan 1\nsignal s\na 1\nb 1\nend\n") ≡ Err (Run 5 (faults.Short 2))
unfolding spelled_plan lines_in lines_of behind_lines faults_of join_below sum_below table_of
a_block_too_short = refl

pub a_run_too_many : spelled_plan two_phases (codes "ctm-plan 1\nsignal s\na 1\nb 1\na 1\nb 1\n") ≡ Err (Run 6 (faults.Surplus 3))
unfolding spelled_plan lines_in lines_of behind_lines faults_of join_below sum_below table_of
a_run_too_many = refl

-- a last line without its line feed, and a byte behind the end
pub no_last_line_feed : spelled_plan two_phases (codes "ctm-plan 1\nsignal s\na 1\nb 1\na 1\nend") ≡ Err (Form 6)
unfolding spelled_plan lines_in lines_of behind_lines faults_of join_below sum_below table_of
no_last_line_feed = refl

pub a_byte_behind_the_end : spelled_plan two_phases (codes "ctm-plan 1\nsignal s\na 1\nb 1\na 1\nend\nx") ≡ Err (Form 7)
unfolding spelled_plan lines_in lines_of behind_lines faults_of join_below sum_below table_of
a_byte_behind_the_end = refl
