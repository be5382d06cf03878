use Rattle.std.proofs.Common.{◌≡◌, ℕ, ◌*◌, ◌^◌, ◌<◌, ◌≤◌, slice_index}
use Rattle.listed.specs.Below.{sum_below}
use Rattle.traffic_model.specs.Delay.{cell_delay}
use Rattle.traffic_model.specs.Flow.{outflow}
use Rattle.cell_replay.proofs.moves.send.Given as goal

abbrev pub invariant-loop-number : goal.invariant-loop-number
invariant-loop-number l = record {
  each : (i : ℕ) → i < l.number → slice_index l.outflows i ≡ outflow l.cells l.letters l.units i;
  delay : l.delay ≡ sum_below l.number (λ i. cell_delay l.cells l.letters l.units i);
  small : l.delay ≤ 2 ^ 32 * l.number;
}
