use Rattle.std.proofs.Common.{◌≡◌, ℕ, ◌+◌, ◌*◌, ◌^◌, ◌<◌, ◌≤◌, length, slice_index, take}
use Rattle.traffic_model.specs.Flow.{parcel_to}
use Rattle.cell_replay.proofs.moves.spread.Given as goal

abbrev pub invariant-loop-target : goal.invariant-loop-target
invariant-loop-target l = record {
  each : (j : ℕ) → j < length l.units → slice_index l.units j ≡ slice_index l.initial.units j + parcel_to j (take l.target-index l.turns) * l.parcels;
  room : (j : ℕ) → slice_index l.units j ≤ 2 ^ 30 + 100000 * l.target-index;
}
