use Rattle.std.proofs.Common.{refl}
use Rattle.solve_core.proofs.SearchLaws.{split_keeps}
use Rattle.solve_core.proofs.search.Search.split.Goals as goal

-- src/search.rt
pub split-requires-clause-split : goal.split-requires-clause-split
split-requires-clause-split c =
    c.nodes_have_bits.ensures.split c.args.net.now c.args.budget c.args.leaf c.args.column _ _ c.args.self.now.tree c.requires.searching.grown c.requires.first

pub returns-clause-searching : goal.returns-clause-searching
returns-clause-searching c =
    let net = c.args.net.now in
    let old = c.args.self.now in
    let keeps = c.requires.searching in
    split_keeps net c.args.budget c.args.leaf c.args.column old _ keeps c.requires.within c.in_ok-sides.ensures.tree c.is_growing.ensures
    (λ growing. c.first_splits_keep_the_tree.ensures net c.args.budget c.args.leaf c.args.column _ old.least old.tree keeps.grown growing c.requires.open c.requires.first c.requires.within)
    (c.open_leaves_are_counted.ensures.larger old.tree c.args.leaf c.args.column _ keeps.grown.keeps c.requires.open)
    (λ below. c.splits_cut_the_box_of_their_leaf.ensures.others old.tree c.args.leaf c.args.column old.at _ below) refl refl refl refl refl
