use Rattle.std.proofs.Common.{◌∷◌, ℕ, List, ◌∙◌, subst}
use Rattle.branch_tree.specs.inner.Preorder.{IsUnderWay, nodes_below}
use Rattle.branch_tree.specs.inner.Slots.{tree_of}
use Rattle.branch_tree.proofs.nodes.Nodes.into_preorder.Goals as goal

pub loop-number-preserved : goal.loop-number-preserved
loop-number-preserved c =
    let under : IsUnderWay (nodes_below (tree_of c.args.self.slots.items)) c.loop-number.slots.items (c.in-Some.number ∷ c.pop.new.self) c.loop-number.written.items =
    subst (λ (waiting : List ℕ). IsUnderWay (nodes_below (tree_of c.args.self.slots.items)) c.loop-number.slots.items waiting c.loop-number.written.items)
    c.in-Some.ensures.item c.loop-number.invariant.under_way in
    record {
      under_way = (c.in_ok-write.ensures.goes_on (nodes_below (tree_of c.args.self.slots.items)) under).under_way;
      long = c.in_ok-write.ensures.long ∙ c.loop-number.invariant.long;
    }
