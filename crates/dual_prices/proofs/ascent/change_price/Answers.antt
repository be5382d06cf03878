use Rattle.std.proofs.Common.{length, ◌<◌, arith}
use Rattle.std.specs.Int.{w64}
use mir.Val.{of_z, to_z}
use Rattle.dual_prices.proofs.LocalLaws.{IsSettledRow-apart}
use Rattle.dual_prices.proofs.NeighbourLaws.{waits_there}
use Rattle.dual_prices.proofs.ascent.change_price.Goals as goal

pub returns-clause-waiting : goal.returns-clause-waiting
returns-clause-waiting c = record {
  one_per_row = c.wake.ensures.long;
  others = λ i calm.
      let there : i < length c.args.program.now.rows = omega (arith, waits_there c.wake.new.waiting i calm, c.wake.ensures.long) in
      rw (c.change.ensures.ranges, c.change.ensures.prices)
      (IsSettledRow-apart c.args.program.now c.args.kept.now.box c.args.kept.now.prices c.args.next.row i (to_z w64 (of_z w64 c.args.next.by)) c.requires.of.lawful c.requires.there there (c.wake.ensures.other i calm)
      (c.wake.ensures.apart i calm) (c.requires.waiting.others i (c.wake.ensures.calm i calm)));
}
