use Rattle.std.proofs.Common.{◌≡◌, ◌*◌, ◌≤◌, take}
use Rattle.traffic_model.specs.Flow.{parcel_to}
use Rattle.lo_program.proofs.flows.feeders.parcel_to.Given as goal

abbrev pub invariant-loop-turn : goal.invariant-loop-turn
invariant-loop-turn l = record {
  value : l.units ≡ parcel_to l.i (take l.turn-index l.turns);
  small : l.units ≤ 100 * l.turn-index;
}
