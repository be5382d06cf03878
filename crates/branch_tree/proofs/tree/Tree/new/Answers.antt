use Rattle.std.proofs.Common.{◌≡◌, ◌∷◌, [], List, ap, ◌∙◌, sym, subst, rules}
use Rattle.branch_tree.specs.Boxes.{Growing}
use Rattle.branch_tree.specs.OpenTree.{OpenTree}
use Rattle.branch_tree.specs.inner.Slots.{IsKept, open_slot, tree_of}
use Rattle.branch_tree.specs.declared.slot.Entry.TheVariants.{Root}
use Rattle.branch_tree.specs.declared.slot.Slot.{Slot}
use Rattle.branch_tree.proofs.GrowLaws.{one_slot_gives, one_slot_keeps}
use Rattle.branch_tree.proofs.tree.Tree.new.Goals as goal

-- the one slot
slots : (c : goal.In_ok-push) → c.push.new.self.items ≡ open_slot 0 Root ∷ []
slots c = search rules

pub invariant_of-result : goal.invariant_of-result
invariant_of-result c = subst (λ (items : List Slot). IsKept c.args.root items 0) (sym (slots c)) (one_slot_keeps c.args.root c.is_box.ensures)

pub returns : goal.returns
returns c =
    let gives : tree_of c.push.new.self.items ≡ tree_of (open_slot 0 Root ∷ []) = ap tree_of (slots c) in
    ap (λ (tree : OpenTree). let made : Growing = record { root = c.args.root; tree = tree } in made) (gives ∙ one_slot_gives)
