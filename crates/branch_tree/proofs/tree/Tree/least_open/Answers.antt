use Rattle.std.proofs.Common.{◌≡◌, ℕ, ◌<◌, true, false, subst, arith}
use Rattle.branch_tree.specs.Boxes.{Growing}
use Rattle.branch_tree.specs.OpenTree.{is_open}
use Rattle.branch_tree.proofs.GrowLaws.{first_is_open, none_before_first, none_is_open}
use Rattle.branch_tree.proofs.tree.Tree.least_open.Goals as goal

pub returns-then-self-count-clause-some : goal.returns-then-self-count-clause-some
returns-then-self-count-clause-some c =
    subst (λ (growing : Growing). is_open growing.tree c.self.inside.first_open ≡ true) c.self.view_is
    (first_is_open c.self.inside.nodes.root c.self.inside.nodes.slots.items c.self.inside.first_open c.self.invariant (omega (arith, c.count.ensures)))

pub returns-then-self-count-clause-least : goal.returns-then-self-count-clause-least
returns-then-self-count-clause-least c =
    subst (λ (growing : Growing). (n : ℕ) → n < c.self.inside.first_open → is_open growing.tree n ≡ false) c.self.view_is
    (λ n. none_before_first c.self.inside.nodes.root c.self.inside.nodes.slots.items c.self.inside.first_open n c.self.invariant)

pub returns-else-self-count-clause-none : goal.returns-else-self-count-clause-none
returns-else-self-count-clause-none c =
    subst (λ (growing : Growing). (n : ℕ) → is_open growing.tree n ≡ false) c.self.view_is
    (λ n. none_is_open c.self.inside.nodes.root c.self.inside.nodes.slots.items c.self.inside.first_open n c.self.invariant (omega (arith, c.count.ensures)))
