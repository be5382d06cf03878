use Rattle.std.proofs.Common.{ℕ, ◌+◌, ◌*◌, ◌^◌, ◌<◌, ◌≤◌, length, get_or, set, slice_index, refl, arith, length-set}
use Rattle.cell_replay.proofs.Spreading.{spread_more, spread_within}
use Rattle.cell_replay.proofs.moves.spread.Goals as goal

pub loop-target-preserved : goal.loop-target-preserved
loop-target-preserved c =
    let turns = c.args.turns.now in
    let i = c.loop-target.target-index in
    let turn : ℕ × ℕ = get_or turns i (0, 0) in
    let there : turn.0 < length c.loop-target.units = omega (arith, c.requires.within i (0, 0) c.loop-target-test.true) in
    record {
      each = λ j within.
          spread_more c.loop-target.units c.args.units.now turns i c.args.parcels j turn refl c.loop-target-test.true there
          (c.loop-target.invariant.each j (omega (arith, simp length-set at within)));
      room = λ j.
          let more : slice_index (set c.loop-target.units turn.0 (get_or c.loop-target.units turn.0 0 + turn.1 * c.args.parcels)) j ≤ 2 ^ 30 + 100000 * i + 100000 =
          spread_within c.loop-target.units turn.0 turn.1 c.args.parcels j (2 ^ 30 + 100000 * i) there
          (c.requires.branches.shares i (0, 0) c.loop-target-test.true).1 c.requires.small (c.loop-target.invariant.room j) in
          omega arith;
    }
