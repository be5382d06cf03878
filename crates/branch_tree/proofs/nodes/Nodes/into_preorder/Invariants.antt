use Rattle.std.proofs.Common.{◌≡◌, length}
use Rattle.branch_tree.specs.inner.Preorder.{IsUnderWay, nodes_below, work}
use Rattle.branch_tree.specs.inner.Slots.{tree_of}
use Rattle.branch_tree.proofs.nodes.Nodes.into_preorder.Given as goal

abbrev pub invariant-loop-number : goal.invariant-loop-number
invariant-loop-number l = record {
  under_way : IsUnderWay (nodes_below (tree_of l.fn.self.slots.items)) l.slots.items l.waiting l.written.items;
  long : length l.slots.items ≡ length l.fn.self.slots.items;
}

abbrev pub decreases-loop-number : goal.decreases-loop-number
decreases-loop-number l = work l.slots.items l.waiting
