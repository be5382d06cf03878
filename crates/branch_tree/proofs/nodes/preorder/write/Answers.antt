use Rattle.std.proofs.Common.{◌≡◌, ◌∷◌, ◌++◌, [], ◌+◌, ◌<◌, length, sym, subst, refl, arith, w64, rules}
use Rattle.std.proofs.lemmas.Int.{to_z-of_z}
use Rattle.cert_format.specs.declared.cert.Node.TheVariants.{Split}
use Rattle.branch_tree.specs.inner.Slots.{AreBehind, slot_of}
use Rattle.branch_tree.specs.declared.slot.State.{State}
use Rattle.branch_tree.specs.declared.slot.State.TheVariants as state
use Rattle.branch_tree.proofs.PreorderLaws.{goes_on_closed, goes_on_open, goes_on_split}
use Rattle.branch_tree.proofs.nodes.preorder.write.Goals as goal
use mir.Val.{SFits}

pub overflow_add-left : goal.overflow_add-left
overflow_add-left c =
    let sides : (c.args.number < c.in-Split.left) × (c.in-Split.left + 1 < length c.args.slots.now.items) =
    subst (λ (s : State). AreBehind (length c.args.slots.now.items) c.args.number s) (sym c.in-Split.ensures.value) (c.requires.behind c.args.number c.requires.there) in
    omega (arith, sides.1, c.requires.few)

pub returns-in-Open-clause-goes_on : goal.returns-in-Open-clause-goes_on
returns-in-Open-clause-goes_on c = λ all under.
    rw c.in-Open.ensures.taken
    (goes_on_open all c.args.slots.now.items c.args.number c.args.waiting.now c.args.written.now.items c.requires.there (sym c.in-Open.ensures.value) under)

pub returns-in_ok-push-in-Closed-clause-goes_on : goal.returns-in_ok-push-in-Closed-clause-goes_on
returns-in_ok-push-in-Closed-clause-goes_on c = λ all under.
    rw (c.in-Closed.ensures.taken, c.in_ok-push-in-Closed.ensures.items)
    (goes_on_closed all c.args.slots.now.items c.args.number c.args.waiting.now c.args.written.now.items c.in-Closed.leaf c.node_of.result c.requires.there
    (sym c.in-Closed.ensures.value) c.node_of.ensures under)

pub returns-in_ok-push-in-Split-3-clause-goes_on : goal.returns-in_ok-push-in-Split-3-clause-goes_on
returns-in_ok-push-in-Split-3-clause-goes_on c = λ all under.
    let fits : SFits w64 c.in-Split.at = search rules in
    let value : state.Split c.in-Split.column c.in-Split.at c.in-Split.left ≡ (slot_of c.args.slots.now.items c.args.number).state = c.in-Split.ensures.value in
    let written : c.push-in-Split.new.self.items ≡ c.args.written.now.items ++ Split c.in-Split.column c.in-Split.at ∷ [] = simp to_z-of_z at c.in_ok-push-in-Split.ensures.items in
    let first : c.push-in-Split-2.new.self ≡ (c.in-Split.left + 1) ∷ c.args.waiting.now = c.in_ok-push-in-Split-2.ensures.ok in
    let second : c.push-in-Split-3.new.self ≡ c.in-Split.left ∷ c.push-in-Split-2.new.self = c.in_ok-push-in-Split-3.ensures.ok in
    rw (c.in-Split.ensures.taken, second, first, written)
    (goes_on_split all c.args.slots.now.items c.args.number c.args.waiting.now c.args.written.now.items c.in-Split.column c.in-Split.at c.in-Split.left
    (Split c.in-Split.column c.in-Split.at) c.requires.there (sym value) refl under)
