use Rattle.std.proofs.Common.{◌≡◌, ◌<◌, length}
use Rattle.branch_tree.specs.inner.Slots.{IsAbove}
use Rattle.branch_tree.proofs.MoveLaws.{IsOnItsWay}
use Rattle.branch_tree.proofs.nodes.Nodes.descend.Given as goal

abbrev pub invariant-loop-number : goal.invariant-loop-number
invariant-loop-number g l = record {
  there : l.number < length l.self.slots.items;
  above : IsAbove l.self.slots.items l.from l.number;
  of : g.B.Moved.IsOf l.program l.into;
  way : IsOnItsWay l.self.root l.self.slots.items l.from l.to l.number (g.B.Moved.ranges l.into);
  prices : g.B.Moved.prices l.into ≡ g.B.Moved.prices l.initial.into;
}

abbrev pub decreases-loop-number : goal.decreases-loop-number
decreases-loop-number g l = l.number
