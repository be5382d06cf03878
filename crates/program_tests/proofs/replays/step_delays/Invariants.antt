use Rattle.std.proofs.Common.{◌≡◌}
use Rattle.cell_replay.specs.Standing.{IsReplayOf}
use Rattle.program_tests.proofs.replays.step_delays.Given as goal

abbrev pub invariant-loop-step : goal.invariant-loop-step
invariant-loop-step l = record { stands : IsReplayOf l.net l.replay; step : l.replay.step ≡ l._step }
