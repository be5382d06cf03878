-- What a run promises of a bound that it prints (README.md, "What is proved"). Whoever wants to believe a bound reads this, and what it
-- names: which network the bytes of a file spell, which plans of it are admissible, and the delay of a plan.
use Rattle.std.specs.Prelude.{◌≡◌, ℕ, ℤ, pos, ◌≤ℤ◌, List, Some, Ok}
use Rattle.shelf_io.specs.Told.{Files, bytes_of, with_taken}
use Rattle.ct_base.specs.declared.net.Net.{Net}
use Rattle.ct_base.specs.declared.plan.Plan.{Plan}
use Rattle.traffic_model.specs.Delay.{delay_of, letters_at}
use Rattle.traffic_model.specs.Runs.{IsAdmissiblePlan}
use Rattle.named_net.specs.Naming.{Named}
use Rattle.cell_build.specs.Spelled.{spelled_network}
use Rattle.plan_file.specs.Spelled.{spelled_plan}
use Rattle.signal_cli.specs.BoundLines.{accepted_lines, gap_lines}
use Rattle.signal_cli.specs.Worlds.{ForFiles, World}

-- the delay of a plan of a network over its whole horizon
abbrev pub delay_under : Net → Plan → ℕ
delay_under net plan = delay_of net.cells (letters_at plan.words) net.steps

-- the named file spells a network, and no admissible plan of it has a delay below the bound
pub record IsSafe (network : List ℕ) (bound : ℤ) (files : Files) : Type 0 where
  pub bytes : List ℕ
  pub there : bytes_of files network ≡ Some bytes
  pub named : Named
  pub spelled : spelled_network bytes ≡ Ok named
  pub least : (plan : Plan) → IsAdmissiblePlan named.net plan → bound ≤ℤ pos (delay_under named.net plan)

-- the same, and another file spells an admissible plan of that network, which has the delay
pub record IsGap (network plan : List ℕ) (delay : ℕ) (bound : ℤ) (files : Files) : Type 0 where
  pub safe : IsSafe network bound files
  pub bytes : List ℕ
  pub there : bytes_of files plan ≡ Some bytes
  pub read : Plan
  pub spelled : spelled_plan safe.named bytes ≡ Ok read
  pub admissible : IsAdmissiblePlan safe.named.net read
  pub is : delay ≡ delay_under safe.named.net read

-- exactly the lines of an accepted bound were put, and the bound is safe: for the told files, or where files are not told, for some
pub record PutsBound (network : List ℕ) (before after : World) : Type 0 where
  pub bound : ℤ
  pub put : after.out ≡ with_taken before.out (accepted_lines bound)
  pub safe : ForFiles before.shelf.files (IsSafe network bound)

-- exactly the lines of a gap were put, the bound is safe, and the delay is that of the plan
pub record PutsGap (network plan : List ℕ) (before after : World) : Type 0 where
  pub delay : ℕ
  pub bound : ℤ
  pub put : after.out ≡ with_taken before.out (gap_lines delay bound)
  pub safe : ForFiles before.shelf.files (IsGap network plan delay bound)
