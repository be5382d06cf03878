use Rattle.std.proofs.Common.{arith}
use Rattle.program_layout.proofs.CountLaws.{small_plan}
use Rattle.program_layout.proofs.layout.making.layout_of.Goals as goal

pub overflow_mul-result : goal.overflow_mul-result
overflow_mul-result c = rw c.in_ok-bits.ensures.all (omega (arith, small_plan c.args.net.now c.requires))
