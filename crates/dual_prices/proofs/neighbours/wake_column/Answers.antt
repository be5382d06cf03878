use Rattle.std.proofs.Common.{length, ◌<◌, arith, ap}
use Rattle.dual_prices.proofs.NeighbourLaws.{entry-unnamed, waits_there}
use Rattle.dual_prices.proofs.neighbours.wake_column.Goals as goal

pub returns-clause-apart : goal.returns-clause-apart
returns-clause-apart c i calm =
    let unnamed = rw c.column-column.ensures.value at (c.loop-term.invariant.apart i calm) in
    let long = ap length c.column-column.ensures.value in
    let there : i < length c.args.program.now.rows = omega (arith, waits_there c.loop-term.waiting i calm, c.loop-term.invariant.long) in
    entry-unnamed c.args.program.now.rows i c.args.j (λ k below. unnamed k (omega (arith, below, long, c.loop-term-test.false))) there
