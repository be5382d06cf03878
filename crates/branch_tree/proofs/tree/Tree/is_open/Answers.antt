use Rattle.std.proofs.Common.{◌≡◌, nat_lt, ◌∙◌, subst, sym, arith}
use Rattle.std.proofs.lemmas.Bool.{le-ltb}
use Rattle.branch_tree.specs.Boxes.{Growing}
use Rattle.branch_tree.specs.OpenTree.{is_open}
use Rattle.branch_tree.proofs.GrowLaws.{past_is_not_open, slot_is_open}
use Rattle.branch_tree.proofs.tree.Tree.is_open.Goals as goal

pub returns-then-number-count : goal.returns-then-number-count
returns-then-number-count c =
    subst (λ (growing : Growing). c.is_open.result ≡ is_open growing.tree c.args.number) c.self.view_is
    (rw (← slot_is_open c.self.inside.nodes.root c.self.inside.nodes.slots.items c.args.number c.self.invariant.each (omega (arith, c.count.ensures, c.if-number-count.true)))
    (rw (← c.slot.ensures) c.is_open.ensures))

pub returns-else-number-count : goal.returns-else-number-count
returns-else-number-count c =
    subst (λ (growing : Growing). nat_lt c.args.number c.count.result ≡ is_open growing.tree c.args.number) c.self.view_is
    (le-ltb c.args.number c.count.result c.if-number-count.false ∙ sym (past_is_not_open c.self.inside.nodes.root c.self.inside.nodes.slots.items c.args.number c.self.invariant.each
    (omega (arith, c.count.ensures, c.if-number-count.false))))
