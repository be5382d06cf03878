use Rattle.std.proofs.Common.{◌≡◌, Some, ap, ◌∙◌, sym, w64, rules}
use Rattle.std.proofs.lemmas.Int.{to_z-of_z}
use Rattle.branch_tree.specs.inner.Entries.{new_high}
use Rattle.branch_tree.specs.inner.Slots.{slot_of}
use Rattle.branch_tree.specs.declared.slot.Slot.{Slot}
use Rattle.branch_tree.proofs.BoxLaws.{high_here}
use Rattle.branch_tree.proofs.nodes.Nodes.high.Goals as goal
use mir.Val.{SFits}

pub returns-in-Some : goal.returns-in-Some
returns-in-Some c =
    let fits : SFits w64 c.in-Some.high = search rules in
    let found : new_high (slot_of c.args.self.now.slots.items c.loop-number.number).entry c.args.column ≡ Some c.in-Some.high =
    ap (λ (slot : Slot). new_high slot.entry c.args.column) (sym c.slot-slot.ensures) ∙ sym c.in-Some.ensures in
    to_z-of_z w64 c.in-Some.high fits
    ∙ sym (high_here c.args.self.now.root c.args.self.now.slots.items c.loop-number.number c.args.column c.in-Some.high c.requires.slots c.loop-number.invariant.there found)
    ∙ c.loop-number.invariant.same
