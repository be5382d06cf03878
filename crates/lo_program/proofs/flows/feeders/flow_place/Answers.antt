use Rattle.std.proofs.Common.{arith}
use Rattle.lo_program.proofs.FeederLaws.{flow_place-next}
use Rattle.lo_program.proofs.flows.feeders.flow_place.Goals as goal

pub overflow_sub-result : goal.overflow_sub-result
overflow_sub-result c = rw (c.term_count.ensures.value, c.cell.ensures.value, c.columns_through.ensures) (omega (arith, flow_place-next c.args.net.now.cells c.args.i))

pub overflow_sub-result-2 : goal.overflow_sub-result-2
overflow_sub-result-2 c = rw (c.term_count.ensures.value, c.cell.ensures.value, c.columns_through.ensures) (omega (arith, flow_place-next c.args.net.now.cells c.args.i))

pub returns : goal.returns
returns c = rw (c.term_count.ensures.value, c.cell.ensures.value, c.columns_through.ensures) (omega (arith, flow_place-next c.args.net.now.cells c.args.i))
