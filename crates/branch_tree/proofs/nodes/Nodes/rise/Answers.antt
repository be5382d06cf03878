use Rattle.std.proofs.Common.{◌∙◌, subst, sym}
use Rattle.branch_tree.specs.inner.Slots.{IsAbove}
use Rattle.branch_tree.specs.declared.slot.Slot.{Slot}
use Rattle.branch_tree.proofs.BoxLaws.{above_more}
use Rattle.branch_tree.proofs.MoveLaws.{can_leave, left_box, parent_there}
use Rattle.branch_tree.proofs.nodes.Nodes.rise.Goals as goal

pub loop-here-preserved-then-here-there : goal.loop-here-preserved-then-here-there
loop-here-preserved-then-here-there g c = record {
  here_is = c.loop-here.invariant.here_is;
  there_is = parent_there c.args.self.now.root c.args.self.now.slots.items c.loop-here.there c.slot.result.now c.requires.slots c.loop-here.invariant.there_is c.slot.ensures;
  above = subst (λ (slot : Slot). IsAbove c.args.self.now.slots.items slot.parent c.args.to) (sym c.slot.ensures)
      (above_more c.args.self.now.slots.items c.loop-here.there c.args.to c.loop-here.invariant.above);
  of = c.loop-here.invariant.of;
  stands = c.loop-here.invariant.stands;
  prices = c.loop-here.invariant.prices;
}

pub leave-requires-clause-can : goal.leave-requires-clause-can
leave-requires-clause-can g c =
    can_leave c.args.self.now.root c.args.self.now.slots.items c.loop-here.here c.slot-slot.result.now (g.B.Moved.ranges c.loop-here.into) c.requires.slots
    c.loop-here.invariant.here_is c.slot-slot.ensures c.loop-here.invariant.stands

pub loop-here-preserved : goal.loop-here-preserved
loop-here-preserved g c = record {
  here_is = parent_there c.args.self.now.root c.args.self.now.slots.items c.loop-here.here c.slot-slot.result.now c.requires.slots c.loop-here.invariant.here_is c.slot-slot.ensures;
  there_is = c.loop-here.invariant.there_is;
  above = c.loop-here.invariant.above;
  of = c.leave.ensures.of;
  stands = left_box c.args.self.now.root c.args.self.now.slots.items c.loop-here.here c.slot-slot.result.now (g.B.Moved.ranges c.loop-here.into)
      (g.B.Moved.ranges c.leave.new.into) c.requires.slots c.loop-here.invariant.here_is c.slot-slot.ensures c.loop-here.invariant.stands c.leave.ensures.ranges;
  prices = c.leave.ensures.prices ∙ c.loop-here.invariant.prices;
}
