use Rattle.std.proofs.Common.{arith}
use Rattle.program_model.specs.Numbers.{first_column}
use Rattle.program_layout.proofs.CountLaws.{few_of_room, small_first}
use Rattle.program_layout.proofs.layout.numbers.branch_column.Goals as goal

pub overflow_add-result : goal.overflow_add-result
unfolding first_column
overflow_add-result c =
    rw c.parcels_column.ensures (omega (arith, few_of_room c.args.net.now.cells c.args.i, (small_first c.args.net.now c.args.t c.args.i c.requires.valid (omega (arith, c.requires.before)) (omega (arith, c.requires.inside))).1))

pub overflow_add-result-2 : goal.overflow_add-result-2
unfolding first_column
overflow_add-result-2 c =
    rw c.parcels_column.ensures (omega (arith, c.columns_of_branches.ensures.few, few_of_room c.args.net.now.cells c.args.i, (small_first c.args.net.now c.args.t c.args.i c.requires.valid (omega (arith, c.requires.before)) (omega (arith, c.requires.inside))).1))
