use Rattle.std.proofs.Common.{arith}
use Rattle.program_model.specs.Numbers.{first_column}
use Rattle.program_layout.proofs.CountLaws.{small_first}
use Rattle.program_layout.proofs.layout.numbers.parcels_column.Goals as goal

pub overflow_add-result : goal.overflow_add-result
unfolding first_column
overflow_add-result c =
    rw c.first_column.ensures (omega (arith, c.after_room.ensures.few, (small_first c.args.net.now c.args.t c.args.i c.requires.valid (omega (arith, c.requires.before)) (omega (arith, c.requires.inside))).1))
