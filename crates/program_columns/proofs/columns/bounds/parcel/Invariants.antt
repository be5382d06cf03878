use Rattle.std.proofs.Common.{◌≡◌, ◌*◌, ◌≤◌, take}
use Rattle.ct_base.specs.Access.{parcel}
use Rattle.program_columns.proofs.columns.bounds.parcel.Given as goal

abbrev pub invariant-loop-turn : goal.invariant-loop-turn
invariant-loop-turn l = record {
  value : l.units ≡ parcel (take l.turn-index l.turns);
  some : l.turn-index ≤ l.units;
  small : l.units ≤ 100 * l.turn-index;
}
