use Rattle.std.proofs.Common.{◌≡◌, Some, ap, ◌∙◌, sym, subst, w64, rules}
use Rattle.std.proofs.lemmas.Int.{to_z-of_z}
use Rattle.branch_tree.specs.inner.Entries.{HasNextLow, new_low}
use Rattle.branch_tree.specs.inner.Slots.{slot_of}
use Rattle.branch_tree.specs.declared.slot.Slot.{Slot}
use Rattle.branch_tree.proofs.BoxLaws.{low_here, next_low}
use Rattle.branch_tree.proofs.nodes.Nodes.low.Goals as goal
use mir.Val.{SFits}

pub low_of-requires : goal.low_of-requires
low_of-requires c =
    subst (λ (slot : Slot). HasNextLow slot.entry) (sym c.slot-slot.ensures)
    (next_low c.args.self.now.root c.args.self.now.slots.items c.loop-number.number c.requires.slots c.loop-number.invariant.there)

pub returns-in-Some : goal.returns-in-Some
returns-in-Some c =
    let fits : SFits w64 c.in-Some.low = search rules in
    let found : new_low (slot_of c.args.self.now.slots.items c.loop-number.number).entry c.args.column ≡ Some c.in-Some.low =
    ap (λ (slot : Slot). new_low slot.entry c.args.column) (sym c.slot-slot.ensures) ∙ sym c.in-Some.ensures in
    to_z-of_z w64 c.in-Some.low fits
    ∙ sym (low_here c.args.self.now.root c.args.self.now.slots.items c.loop-number.number c.args.column c.in-Some.low c.requires.slots c.loop-number.invariant.there found)
    ∙ c.loop-number.invariant.same
