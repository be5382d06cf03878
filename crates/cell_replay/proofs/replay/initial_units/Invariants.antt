use Rattle.std.proofs.Common.{◌≡◌, vec_len}
use Rattle.ct_base.specs.Access.{cell_of}
use Rattle.listed.specs.Below.{table_of}
use Rattle.cell_replay.proofs.replay.initial_units.Given as goal

abbrev pub invariant-loop-cell : goal.invariant-loop-cell
invariant-loop-cell l = record {
  items : l.units.items ≡ table_of l.cell-index (λ i. (cell_of l.cells i).initial);
  length : vec_len l.units ≡ l.cell-index;
}
