use Rattle.cell_replay.specs.Keeps.{KeepsTo}
use Rattle.cell_replay.proofs.kept.KeptReplay.replay.Given as goal

abbrev pub invariant-loop-step : goal.invariant-loop-step
invariant-loop-step l = KeepsTo l.net l.plan l.step l.self
