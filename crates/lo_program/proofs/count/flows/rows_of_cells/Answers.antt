use Rattle.std.proofs.Common.{sym, arith}
use Rattle.listed.proofs.SumLaws.{sum_below-suc, sum_below-zero}
use Rattle.lo_program.specs.inner.Counts.{moving_rows}
use Rattle.lo_program.proofs.count.flows.rows_of_cells.Goals as goal

pub loop-i-init : goal.loop-i-init
loop-i-init c = record { value = sym (sum_below-zero (moving_rows c.args.net.now.cells)); few = omega arith }

pub loop-i-preserved : goal.loop-i-preserved
loop-i-preserved c = record {
  value = omega (arith, sum_below-suc c.loop-i.i (moving_rows c.args.net.now.cells), c.loop-i.invariant.value, c.from-rows.ensures, c.rows_of_cell.ensures.value);
  few = omega (arith, c.loop-i.invariant.few, c.from-rows.ensures, c.rows_of_cell.ensures.few);
}
