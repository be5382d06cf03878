use Rattle.std.proofs.Common.{◌≡◌, ◌<◌, length}
use Rattle.sparse_program.specs.Box.{high_of}
use Rattle.branch_tree.specs.inner.Slots.{node_box}
use Rattle.branch_tree.proofs.nodes.Nodes.high.Given as goal

abbrev pub invariant-loop-number : goal.invariant-loop-number
invariant-loop-number l = record {
  there : l.number < length l.self.slots.items;
  same : high_of (node_box l.self.root l.self.slots.items l.number) l.column ≡ high_of (node_box l.self.root l.self.slots.items l.node) l.column;
}

abbrev pub decreases-loop-number : goal.decreases-loop-number
decreases-loop-number l = l.number
