use Rattle.std.proofs.Common.{arith}
use Rattle.lo_program.proofs.FeederLaws.{before_end, before_next}
use Rattle.lo_program.proofs.flows.feeders.columns_through.Goals as goal

pub overflow_add-i : goal.overflow_add-i
overflow_add-i c = omega (arith, c.requires.inside, c.requires.valid.cells.1)

pub returns-then-i-before : goal.returns-then-i-before
returns-then-i-before c = before_next c.args.net.now c.args.layout.now c.as_slice-before.result.now c.args.i c.requires.layout c.as_slice-before.ensures (omega arith)

pub returns : goal.returns
returns c = before_end c.args.net.now c.args.layout.now c.as_slice-before.result.now c.args.i c.requires.layout c.as_slice-before.ensures c.requires.inside (omega arith)
