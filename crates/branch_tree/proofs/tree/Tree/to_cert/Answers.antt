use Rattle.std.proofs.Common.{◌≡◌, ℕ, ◌∙◌, ap, w64}
use Rattle.std.proofs.lemmas.Int.{to_z-of_z}
use Rattle.branch_tree.specs.Boxes.{Growing}
use Rattle.branch_tree.specs.OpenTree.{opens}
use Rattle.branch_tree.specs.inner.Preorder.{nodes_below}
use Rattle.branch_tree.proofs.PreorderLaws.{is_whole, no_opens}
use Rattle.branch_tree.proofs.tree.Tree.to_cert.Goals as goal
use mir.Val.{SFits}

pub returns : goal.returns
returns c =
    let fits : SFits w64 c.args.bound = c.ranges.bound in
    let none : (n : ℕ) → opens c.args.self.tree n ≡ 0 = λ n. no_opens c.args.self.tree n (c.requires n) in
    let whole = is_whole c.args.self.tree none in
    record {
      whole = whole.whole;
      closed = whole.closed;
      shows = to_z-of_z w64 c.args.bound fits;
      nodes = c.in_ok-nodes.ensures ∙ ap (λ (growing : Growing). nodes_below growing.tree) c.self.view_is ∙ whole.nodes;
    }
