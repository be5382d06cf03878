use Rattle.std.proofs.Common.{◌≡◌, ◌++◌, length, vec_len}
use Rattle.cell_replay.proofs.Adding.{IsAt}
use Rattle.listed.specs.Below.{join_below}
use Rattle.program_model.specs.Columns.{columns_of_cells}
use Rattle.traffic_model.specs.Delay.{letters_at}
use Rattle.plan_point.specs.inner.Points.{counts}
use Rattle.plan_point.proofs.encoding.cells.push_steps.Given as goal

abbrev pub invariant-loop-step : goal.invariant-loop-step
invariant-loop-step l = record {
  run : IsAt l.net (letters_at l.plan.words) l.step l.replay;
  values : l.values.items ≡ l.initial.values.items ++ counts l.net l.plan.words (join_below l.step (columns_of_cells l.net.cells));
  letters : vec_len l.letters ≡ length l.plan.words;
}
