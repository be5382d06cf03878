use Rattle.std.proofs.Common.{arith}
use Rattle.program_model.specs.Numbers.{first_column}
use Rattle.program_layout.proofs.CountLaws.{small_first}
use Rattle.program_layout.proofs.LayoutLaws.{cells_kept}
use Rattle.program_layout.proofs.layout.first_column.Goals as goal

pub overflow_mul-result : goal.overflow_mul-result
overflow_mul-result c =
    rw c.requires.layout.cells_of_step (omega (arith, (small_first c.args.net.now c.args.t c.args.i c.requires.valid (omega (arith, c.requires.before)) (omega (arith, c.requires.inside))).0))

pub overflow_add-result : goal.overflow_add-result
overflow_add-result c =
    rw (c.requires.layout.cells_of_step, c.requires.layout.plan)
    (omega (arith, (small_first c.args.net.now c.args.t c.args.i c.requires.valid (omega (arith, c.requires.before)) (omega (arith, c.requires.inside))).1))

pub bounds-as_slice-i : goal.bounds-as_slice-i
bounds-as_slice-i c = (cells_kept c.args.net.now c.args.layout.now c.as_slice.result.now c.args.i c.requires.layout c.as_slice.ensures c.requires.inside).0

pub overflow_add-result-2 : goal.overflow_add-result-2
overflow_add-result-2 c =
    rw ((cells_kept c.args.net.now c.args.layout.now c.as_slice.result.now c.args.i c.requires.layout c.as_slice.ensures c.requires.inside).1, c.requires.layout.cells_of_step, c.requires.layout.plan)
    (omega (arith, (small_first c.args.net.now c.args.t c.args.i c.requires.valid (omega (arith, c.requires.before)) (omega (arith, c.requires.inside))).1))

pub returns : goal.returns
unfolding first_column
returns c =
    rw ((cells_kept c.args.net.now c.args.layout.now c.as_slice.result.now c.args.i c.requires.layout c.as_slice.ensures c.requires.inside).1, c.requires.layout.cells_of_step, c.requires.layout.plan)
    (omega arith)
