use Rattle.std.proofs.Common.{get_or, arith}
use Rattle.lo_program.proofs.FeederLaws.{parcel_to-more, units_within}
use Rattle.lo_program.proofs.flows.feeders.parcel_to.Goals as goal

pub loop-turn-preserved : goal.loop-turn-preserved
loop-turn-preserved c =
    let turns = c.args.turns.now in
    let k = c.loop-turn.turn-index in
    record {
      value = omega (arith, c.loop-turn.invariant.value, parcel_to-more c.args.i turns k (0, 0) c.loop-turn-test.true);
      small = omega (arith, c.loop-turn.invariant.small, units_within c.args.i (get_or turns k (0, 0)), (c.requires.shares k (0, 0) c.loop-turn-test.true).1);
    }
