-- What is known while a node is judged: the node that a line names, the delay of the plan that the box fixes, and a replay of the plan
-- that was replayed last.
use Rattle.std.specs.Prelude.{◌≡◌, ℕ, ℤ, pos, List, IfSome}
use Rattle.ct_base.specs.declared.net.Net.{Net}
use Rattle.ct_base.specs.declared.plan.Plan.{Plan}
use Rattle.sparse_program.specs.Box.{Ranges}
use Rattle.traffic_model.specs.Runs.{HasWords}
use Rattle.cell_replay.specs.Keeps.{Keeps}
use Rattle.certificate_model.specs.Leaves.{FixesPlan, plan_delay}
use Rattle.certificate_model.specs.Nodes.{LeafNode, Node, SplitNode}
use Rattle.certificate_model.specs.Tree as tree
use Rattle.cert_format.specs.declared.line.Mark.{Mark}
use Rattle.cert_format.specs.declared.line.Mark.TheVariants.{Split, Priced, Empty, Fixed}
use Rattle.cert_check.specs.declared.known.Known.{Known}
use Rattle.cert_check.specs.declared.known.Replayed.{Replayed}

-- the node of a mark and of the pairs that stand apart from it
abbrev pub node_with : Mark → List (ℕ × ℤ) → Node
node_with (Split column at) pairs = SplitNode column at
node_with Priced pairs = LeafNode (tree.Priced pairs)
node_with Empty pairs = LeafNode (tree.Empty pairs)
node_with Fixed pairs = LeafNode tree.Fixed

-- the box fixes a plan that has this delay
pub record FixesDelay (net : Net) (box : Ranges) (delay : ℕ) : Type 0 where
  pub plan : Plan
  pub fixes : FixesPlan net box plan
  pub is : pos delay ≡ plan_delay net plan

-- the replay is that of the plan
pub record IsReplayed (net : Net) (replayed : Replayed) : Type 0 where
  pub words : HasWords net replayed.plan
  pub keeps : Keeps net replayed.plan replayed.replay

-- the delay is that of the plan which the box fixes, and the plan that was replayed last has its replay, whatever the box is
pub record IsKnown (net : Net) (box : Ranges) (known : Known) : Type 0 where
  pub delay : IfSome known.delay (FixesDelay net box)
  pub last : IfSome known.last (IsReplayed net)
