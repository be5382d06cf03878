use Rattle.std.proofs.Common.{refl, ◌∙◌}
use Rattle.std.proofs.lemmas.Int.{to_z-of_z}
use Rattle.std.specs.Int.{w128}
use Rattle.branch_tree.specs.OpenTree.{leaf_of}
use Rattle.solve_core.proofs.SearchLaws.{closed_keeps}
use Rattle.solve_core.proofs.search.Search.close.Goals as goal

-- src/search.rt
pub returns-clause-searching : goal.returns-clause-searching
returns-clause-searching c =
    let net = c.args.net.now in
    let old = c.args.self.now in
    let can = c.requires.can in
    let keeps = c.requires.searching in
    let growing = c.is_growing.ensures in
    let how = leaf_of c.args.how in
    let least = to_z-of_z w128 c.lesser-self.result (record { sfits = c.lesser-self.type_inv }) ∙ c.lesser-self.ensures in
    closed_keeps net c.args.budget c.args.leaf how c.args.number old _ keeps can c.close.ensures growing
    (c.closed_leaves_keep_the_tree.ensures net c.args.budget c.args.leaf _ old.least _ old.tree how keeps.grown)
    (c.open_leaves_are_counted.ensures.same_size old.tree c.args.leaf how)
    (c.closing_keeps_all_boxes.ensures old.tree c.args.leaf old.at how) refl refl refl refl least
