use Rattle.std.proofs.Common.{◌≡◌, ℕ, length, length-append, arith, ap, ◌∙◌, w64, rules}
use Rattle.std.proofs.lemmas.Int.{to_z-of_z}
use Rattle.branch_tree.specs.declared.slot.State.TheVariants as state
use Rattle.branch_tree.proofs.StepLaws.{is_part, with_sides, with_state}
use Rattle.branch_tree.proofs.nodes.Nodes.part.Goals as goal
use mir.Val.{SFits}

pub set_state-requires : goal.set_state-requires
set_state-requires c =
    let longer = ap length c.in_ok-push_sides.ensures.slots ∙ length-append c.args.self.now.slots.items _ in
    omega (arith, longer, c.requires.leaf)

pub returns-clause-part : goal.returns-clause-part
returns-clause-part c =
    let at_fits : SFits w64 c.args.at = c.ranges.at in
    let low_fits : SFits w64 c.low-low.result = search rules in
    let high_fits : SFits w64 c.high-high.result = search rules in
    let middle : c.push_sides.new.self.slots.items ≡ with_sides c.args.self.now.slots.items c.args.leaf c.args.column c.args.at c.low-low.result c.high-high.result =
    simp to_z-of_z at c.in_ok-push_sides.ensures.slots in
    let after : c.set_state.new.self.slots.items ≡ with_state c.push_sides.new.self.slots.items c.args.leaf (state.Split c.args.column c.args.at c.count-left.result) =
    simp to_z-of_z at c.set_state.ensures.slots in
    is_part c.args.self.now.root c.args.self.now.slots.items c.push_sides.new.self.slots.items c.set_state.new.self.slots.items c.args.leaf c.args.column c.args.at
    c.low-low.result c.high-high.result c.requires.leaf c.low-low.ensures c.high-high.ensures middle
    (after ∙ ap (λ (left : ℕ). with_state c.push_sides.new.self.slots.items c.args.leaf (state.Split c.args.column c.args.at left)) c.count-left.ensures)
