use Rattle.std.proofs.Common.{◌≡◌, ◌∙◌, refl, subst, sym, arith}
use Rattle.branch_tree.specs.inner.Slots.{IsAbove}
use Rattle.branch_tree.specs.declared.slot.Slot.{Slot}
use Rattle.branch_tree.proofs.BoxLaws.{above_is_below, above_parent}
use Rattle.branch_tree.proofs.MoveLaws.{parent_there, way_begins, way_can, way_ends, way_goes_on}
use Rattle.branch_tree.proofs.nodes.Nodes.descend.Goals as goal

pub loop-number-init : goal.loop-number-init
loop-number-init g c = record {
  there = c.requires.to;
  above = c.requires.above;
  of = c.requires.of;
  way = way_begins c.args.self.now.root c.args.self.now.slots.items c.args.from c.args.to (g.B.Moved.ranges c.args.into.now) c.requires.slots c.requires.to
      c.requires.above c.requires.stands;
  prices = refl;
}

pub meet-requires-clause-can : goal.meet-requires-clause-can
meet-requires-clause-can g c =
    way_can c.args.self.now.root c.args.self.now.slots.items c.args.from c.args.to c.loop-number.number c.slot-slot.result.now (g.B.Moved.ranges c.loop-number.into)
    c.requires.slots c.loop-number.invariant.there c.slot-slot.ensures c.loop-number.invariant.way

pub loop-number-preserved : goal.loop-number-preserved
loop-number-preserved g c =
    let above : IsAbove c.args.self.now.slots.items c.args.from c.loop-number.number = c.loop-number.invariant.above in
    record {
      there = parent_there c.args.self.now.root c.args.self.now.slots.items c.loop-number.number c.slot-slot.result.now c.requires.slots c.loop-number.invariant.there c.slot-slot.ensures;
      above = subst (λ (slot : Slot). IsAbove c.args.self.now.slots.items c.args.from slot.parent) (sym c.slot-slot.ensures)
          (above_parent c.args.self.now.slots.items c.args.from c.loop-number.number c.loop-number-test.true above);
      of = c.meet.ensures.of;
      way = way_goes_on c.args.self.now.root c.args.self.now.slots.items c.args.from c.args.to c.loop-number.number c.slot-slot.result.now
          (g.B.Moved.ranges c.loop-number.into) (g.B.Moved.ranges c.meet.new.into) c.requires.slots c.loop-number.invariant.there c.slot-slot.ensures
          c.loop-number.invariant.way c.meet.ensures.ranges;
      prices = c.meet.ensures.prices ∙ c.loop-number.invariant.prices;
    }

pub returns-clause-stands : goal.returns-clause-stands
returns-clause-stands g c =
    let above : IsAbove c.args.self.now.slots.items c.args.from c.loop-number.number = c.loop-number.invariant.above in
    let below = above_is_below c.args.self.now.root c.args.self.now.slots.items above.0 c.loop-number.number c.requires.slots c.loop-number.invariant.there in
    let same : c.loop-number.number ≡ c.args.from = omega (arith, below, above.1, c.loop-number-test.false) in
    way_ends c.args.self.now.root c.args.self.now.slots.items c.args.from c.args.to c.loop-number.number (g.B.Moved.ranges c.loop-number.into) c.requires.slots same
    c.loop-number.invariant.way
