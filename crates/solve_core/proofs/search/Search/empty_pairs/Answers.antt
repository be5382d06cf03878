use Rattle.std.proofs.Common.{arith}
use Rattle.solve_core.proofs.PlanColumnLaws.{columns_exist}
use Rattle.solve_core.proofs.search.Search.empty_pairs.Goals as goal

-- src/emptiness.rt
pub found_empty-requires-clause-column : goal.found_empty-requires-clause-column
found_empty-requires-clause-column c =
    let search = c.args.self.now in
    let bits = c.nodes_have_bits.ensures.bits c.args.net.now c.args.budget search.at _ _ search.tree c.requires.searching.grown in
    omega (
      arith,
      c.requires.column,
      columns_exist c.args.net.now c.args.program.now search c.requires.task.program_is c.requires.searching.stands bits,
    )
