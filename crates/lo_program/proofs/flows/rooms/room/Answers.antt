use Rattle.std.proofs.Common.{arith}
use Rattle.program_model.specs.Numbers.{first_column}
use Rattle.program_layout.proofs.CountLaws.{small_first}
use Rattle.lo_program.proofs.flows.rooms.room.Goals as goal

pub overflow_add-units : goal.overflow_add-units
unfolding first_column
overflow_add-units c =
    rw c.first_column-units.ensures (omega (arith, (small_first c.args.net.now c.args.t c.args.b c.requires.valid (omega (arith, c.requires.before)) (omega (arith, c.requires.inside))).1))
