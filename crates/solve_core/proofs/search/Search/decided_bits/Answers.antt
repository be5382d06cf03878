use Rattle.std.proofs.Common.{sym, subst, pos}
use Rattle.branch_tree.specs.Boxes.{box_of}
use Rattle.solve_core.specs.inner.Decided.{AreBitsOfBox, AreFixedBits}
use Rattle.solve_core.specs.declared.search.Search.{Search}
use Rattle.solve_core.proofs.DecidedLaws.{search_has_bits}
use Rattle.solve_core.proofs.search.Search.decided_bits.Goals as goal

pub bits_of_box-requires : goal.bits_of_box-requires
bits_of_box-requires c =
    let search : Search = c.args.self.now in
    (search_has_bits c.args.net.now c.args.budget c.args.columns search c.requires.valid c.requires.searching c.requires.columns c.is_box.ensures
    (c.nodes_have_bits.ensures.bits c.args.net.now c.args.budget search.at (pos search.best.delay) search.least search.tree c.requires.searching.grown) c.requires.decided).0

pub returns : goal.returns
returns c =
    let search : Search = c.args.self.now in
    let has = search_has_bits c.args.net.now c.args.budget c.args.columns search c.requires.valid c.requires.searching c.requires.columns c.is_box.ensures
    (c.nodes_have_bits.ensures.bits c.args.net.now c.args.budget search.at (pos search.best.delay) search.least search.tree c.requires.searching.grown) c.requires.decided in
    record {
      of_box = subst (AreBitsOfBox c.args.net.now (box_of search.tree search.at)) (sym c.in_ok-bits.ensures) has.1;
      bits = subst (AreFixedBits c.args.net.now) (sym c.in_ok-bits.ensures) has.2;
    }
