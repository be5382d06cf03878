use Rattle.std.proofs.Common.{◌≤◌, length, arith}
use Rattle.solve_core.proofs.PlanColumnLaws.{columns_stand}
use Rattle.solve_core.proofs.search.Search.first_unfixed.Goals as goal

-- src/unfixed.rt
pub first_open-requires : goal.first_open-requires
first_open-requires c =
    let search = c.args.self.now in
    let bits = c.nodes_have_bits.ensures.bits c.args.net.now c.args.budget search.at _ _ search.tree c.requires.searching.grown in
    let there : c.args.columns ≤ length search.costed.box.lows =
    omega (arith, c.requires.columns, columns_stand c.args.net.now search c.requires.searching.stands bits) in
    record { there = there }
