use Rattle.std.proofs.Common.{◌≡◌, length, vec_len}
use Rattle.traffic_model.specs.Delay.{letters_at}
use Rattle.cell_replay.specs.Trace.{trace_of}
use Rattle.cell_replay.proofs.Adding.{IsAt}
use Rattle.cell_replay.proofs.lines.trace.Given as goal

abbrev pub invariant-loop-step : goal.invariant-loop-step
invariant-loop-step l = record {
  run : IsAt l.net (letters_at l.plan.words) l.step l.replay;
  lines : l.lines.items ≡ trace_of l.net.cells (letters_at l.plan.words) l.step;
  held : vec_len l.held ≡ length l.net.cells;
  letters : vec_len l.letters ≡ length l.plan.words;
}
