use Rattle.std.proofs.Common.{◌≡◌, ◌≤◌, take}
use Rattle.cell_replay.specs.inner.Moves.{parcels_up_to}
use Rattle.cell_replay.proofs.flow.parcels.Given as goal

abbrev pub invariant-loop-target : goal.invariant-loop-target
invariant-loop-target l = record {
  value : l.parcels ≡ parcels_up_to l.cells l.units (take l.target-index l.turns) l.most;
  small : l.parcels ≤ l.most;
}
