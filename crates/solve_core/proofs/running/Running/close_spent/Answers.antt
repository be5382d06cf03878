use Rattle.certificate_model.specs.Reasons.{IsUnfixed}
use Rattle.branch_tree.specs.Boxes.{box_of}
use Rattle.branch_tree.specs.OpenTree.{size}
use Rattle.solve_core.specs.Searched.{IsSpent}
use Rattle.solve_core.proofs.TurnLaws.{spent_is_reached}
use Rattle.solve_core.proofs.running.Running.close_spent.Goals as goal

-- src/running.rt
pub close_priced-requires-clause-reaches : goal.close_priced-requires-clause-reaches
close_priced-requires-clause-reaches c n is =
    let before = c.args.self.now.search in
    let unfixed : IsUnfixed c.args.net.now (box_of before.tree c.args.turn.leaf) =
    record { column = c.args.column; of_plan = c.requires.first.of_plan; several = c.requires.first.several } in
    let room = c.unfixed_leaves_have_room.ensures c.args.net.now c.args.budget c.args.turn.leaf _ _ before.tree
    c.requires.running.searching.grown c.requires.open unfixed in
    let spent : IsSpent c.args.net.now c.args.budget (size before.tree.tree) = record { full = c.requires.full; room = room } in
    spent_is_reached c.args.net.now c.args.budget _ n before.tree c.work.new.search.tree c.work.ensures.keeps.tree_same spent
