use Rattle.std.proofs.Common.{◌≡◌, ◌++◌}
use Rattle.listed.specs.Below.{join_below}
use Rattle.program_model.specs.Columns.{bits_at}
use Rattle.plan_point.specs.inner.Points.{counts}
use Rattle.plan_point.proofs.encoding.bits.push_bits.Given as goal

abbrev pub invariant-loop-step : goal.invariant-loop-step
invariant-loop-step l = l.values.items ≡ l.initial.values.items ++ counts l.net l.plan.words (join_below l.step (bits_at l.net.signals))
