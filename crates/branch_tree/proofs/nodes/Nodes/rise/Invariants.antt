use Rattle.std.proofs.Common.{◌≡◌, ◌<◌, ◌+◌, length}
use Rattle.branch_tree.specs.inner.Slots.{IsAbove, node_box}
use Rattle.branch_tree.proofs.nodes.Nodes.rise.Given as goal

abbrev pub invariant-loop-here : goal.invariant-loop-here
invariant-loop-here g l = record {
  here_is : l.here < length l.self.slots.items;
  there_is : l.there < length l.self.slots.items;
  above : IsAbove l.self.slots.items l.there l.to;
  of : g.B.Moved.IsOf l.program l.into;
  stands : g.B.Moved.ranges l.into ≡ node_box l.self.root l.self.slots.items l.here;
  prices : g.B.Moved.prices l.into ≡ g.B.Moved.prices l.initial.into;
}

abbrev pub decreases-loop-here : goal.decreases-loop-here
decreases-loop-here g l = l.here + l.there
