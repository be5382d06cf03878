use Rattle.std.proofs.Common.{◌≡◌, length, vec_len}
use Rattle.traffic_model.specs.Delay.{delay_of, letters_at}
use Rattle.cell_replay.proofs.Adding.{IsAt}
use Rattle.cell_replay.proofs.whole_plan.totals_of.Given as goal

abbrev pub invariant-loop-step : goal.invariant-loop-step
invariant-loop-step l = record {
  run : IsAt l.net (letters_at l.plan.words) l.step l.replay;
  delay : l.delay ≡ delay_of l.net.cells (letters_at l.plan.words) l.step;
  letters : vec_len l.letters ≡ length l.plan.words;
}
