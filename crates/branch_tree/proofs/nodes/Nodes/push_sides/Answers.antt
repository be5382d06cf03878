use Rattle.std.proofs.Common.{◌≡◌, ◌∷◌, [], ◌∙◌, append_assoc, w64}
use Rattle.std.proofs.lemmas.Int.{to_z-of_z}
use Rattle.branch_tree.specs.inner.Slots.{open_slot}
use Rattle.branch_tree.specs.declared.slot.Entry.TheVariants.{Left, Right}
use Rattle.branch_tree.proofs.nodes.Nodes.push_sides.Goals as goal
use mir.Val.{SFits}

pub returns-clause-slots : goal.returns-clause-slots
returns-clause-slots c =
    let at_fits : SFits w64 c.args.at = c.ranges.at in
    let low_fits : SFits w64 c.args.low = c.ranges.low in
    let high_fits : SFits w64 c.args.high = c.ranges.high in
    let left : c.open.result ≡ open_slot c.args.leaf (Left c.args.column c.args.at c.args.high) = simp to_z-of_z at c.open.ensures in
    let right : c.open-2.result ≡ open_slot c.args.leaf (Right c.args.column c.args.at c.args.low) = simp to_z-of_z at c.open-2.ensures in
    c.push_reserved-2.ensures.items
    ∙ rw (c.push_reserved.ensures.items, c.in_ok-reserve.ensures.items, left, right)
    (append_assoc c.args.self.now.slots.items (open_slot c.args.leaf (Left c.args.column c.args.at c.args.high) ∷ [])
    (open_slot c.args.leaf (Right c.args.column c.args.at c.args.low) ∷ []))
