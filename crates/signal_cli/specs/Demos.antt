-- What a run of `demo` promises of the plan and of the bound that it prints (README.md, "What is proved"). Whoever wants to believe them
-- reads this, and what it names: which text is generated, which network a text spells, which plans of it are admissible, and the delay of a
-- plan.
use Rattle.std.specs.Prelude.{◌≡◌, ℕ, ℤ, pos, ◌≤ℤ◌, List, Ok}
use Rattle.shelf_io.specs.Told.{with_taken}
use Rattle.ct_base.specs.declared.plan.Plan.{Plan}
use Rattle.traffic_model.specs.Runs.{IsAdmissiblePlan}
use Rattle.named_net.specs.Naming.{Named}
use Rattle.cell_build.specs.Spelled.{spelled_network}
use Rattle.plan_file.specs.Spelled.{spelled_plan}
use Rattle.plan_report.specs.Summary.{summary_lines}
use Rattle.generated_nets.specs.Generated.{generated_text}
use Rattle.solve_core.specs.declared.solved.State.{State}
use Rattle.signal_cli.specs.Bounds.{delay_under}
use Rattle.signal_cli.specs.DemoLines.{demo_lines}
use Rattle.signal_cli.specs.Worlds.{World}

-- exactly the lines of a demonstration were put: the generated text spells a network, the printed plan is an admissible one of it, which
-- has the printed delay, and no admissible plan of it has a delay below the printed bound
pub record PutsDemo (number : ℕ) (before after : World) : Type 0 where
  pub named : Named
  pub spelled : spelled_network (generated_text number) ≡ Ok named
  pub rows : ℕ
  pub columns : ℕ
  pub delay : ℕ
  pub bound : ℤ
  pub nodes : ℕ
  pub state : State
  pub text : List ℕ
  pub put : after.out ≡ with_taken before.out (demo_lines number rows columns (summary_lines delay bound nodes state) text)
  pub plan : Plan
  pub plan_is : spelled_plan named text ≡ Ok plan
  pub admissible : IsAdmissiblePlan named.net plan
  pub delay_is : delay ≡ delay_under named.net plan
  pub least : (other : Plan) → IsAdmissiblePlan named.net other → bound ≤ℤ pos (delay_under named.net other)
