use Rattle.branch_tree.specs.Boxes.{box_of}
use Rattle.solve_core.proofs.StepLaws.{first_is_split, node_has_bits}
use Rattle.solve_core.proofs.laws.nodes_have_bits.Goals as goal

pub returns : goal.returns
returns c = record {
  bits = node_has_bits;
  split = λ net budget n column delay least growing is first.
      first_is_split net (box_of growing n) column (node_has_bits net budget n delay least growing is) first;
}
