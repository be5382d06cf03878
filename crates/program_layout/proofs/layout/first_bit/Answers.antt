use Rattle.std.proofs.Common.{arith}
use Rattle.program_layout.proofs.CountLaws.{small_bits}
use Rattle.program_layout.proofs.LayoutLaws.{bits_kept}
use Rattle.program_layout.proofs.layout.first_bit.Goals as goal

pub bounds-as_slice-s : goal.bounds-as_slice-s
bounds-as_slice-s c = (bits_kept c.args.net.now c.args.layout.now c.as_slice.result.now c.args.s c.requires.layout c.as_slice.ensures c.requires.inside).0

pub overflow_add-result : goal.overflow_add-result
overflow_add-result c =
    rw ((bits_kept c.args.net.now c.args.layout.now c.as_slice.result.now c.args.s c.requires.layout c.as_slice.ensures c.requires.inside).1, c.requires.layout.bits_of_step)
    (omega (arith, small_bits c.args.net.now c.args.t c.args.s c.requires.valid c.requires.before c.requires.inside))

pub returns : goal.returns
returns c =
    rw ((bits_kept c.args.net.now c.args.layout.now c.as_slice.result.now c.args.s c.requires.layout c.as_slice.ensures c.requires.inside).1, c.requires.layout.bits_of_step)
    (omega arith)
