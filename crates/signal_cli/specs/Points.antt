-- What a run of `point` promises of the plan that it prints (README.md, "What is proved"): it is the only one that has the point. Which
-- files it takes says `Accepted`.
use Rattle.std.specs.Prelude.{◌≡◌, ℕ, ℤ, List, Some, Ok}
use Rattle.shelf_io.specs.Told.{Files, bytes_of, with_taken}
use Rattle.ct_base.specs.declared.net.Net.{Net}
use Rattle.ct_base.specs.declared.plan.Plan.{Plan}
use Rattle.named_net.specs.Naming.{Named}
use Rattle.cell_build.specs.Spelled.{spelled_network}
use Rattle.plan_file.specs.Spelled.{spelled_plan}
use Rattle.program_model.specs.Points.{IsIntegerPoint, program_of}
use Rattle.point_model.specs.PlansOfPoints.{IsPlanOf}
use Rattle.program_text.specs.PointText.{SpellsPoint}
use Rattle.signal_cli.specs.Bounds.{delay_under}
use Rattle.signal_cli.specs.PointLines.{decoded_lines}
use Rattle.signal_cli.specs.Worlds.{ForFiles, World}

-- the text is that of an integer point of the network's program
pub record IsPointText (net : Net) (text : List ℕ) : Type 0 where
  pub values : List ℤ
  pub spells : SpellsPoint text values
  pub integer : IsIntegerPoint (program_of net) values

-- the plan is admissible and has the point, and no other admissible plan has it
pub record IsOnlyPlanOf (net : Net) (point : List ℤ) (plan : Plan) : Type 0 where
  pub has : IsPlanOf net point plan
  pub only : (other : Plan) → IsPlanOf net point other → other ≡ plan

-- one file spells a network, and another is the text of an integer point of its program; the plan's text spells the only plan that has
-- this point, and the delay is that plan's
pub record IsDecoded (network point : List ℕ) (delay : ℕ) (plan_text : List ℕ) (files : Files) : Type 0 where
  pub network_bytes : List ℕ
  pub network_there : bytes_of files network ≡ Some network_bytes
  pub named : Named
  pub network_spelled : spelled_network network_bytes ≡ Ok named
  pub point_bytes : List ℕ
  pub point_there : bytes_of files point ≡ Some point_bytes
  pub point_text : IsPointText named.net point_bytes
  pub plan : Plan
  pub plan_spelled : spelled_plan named plan_text ≡ Ok plan
  pub only : IsOnlyPlanOf named.net point_text.values plan
  pub delay_is : delay ≡ delay_under named.net plan

-- exactly the lines of a point's plan were put: for the told files, or where files are not told, for some
pub record PutsDecoded (network point : List ℕ) (before after : World) : Type 0 where
  pub delay : ℕ
  pub plan_text : List ℕ
  pub put : after.out ≡ with_taken before.out (decoded_lines delay plan_text)
  pub decoded : ForFiles before.shelf.files (IsDecoded network point delay plan_text)
