use Rattle.std.proofs.Common.{◌≡◌, ℕ, ◌<◌, get_or}
use Rattle.ct_base.specs.declared.plan.Letter.TheVariants.{Clear}
use Rattle.cell_replay.proofs.changes.first_difference.Given as goal

abbrev pub invariant-loop-step : goal.invariant-loop-step
invariant-loop-step l = (t : ℕ) → t < l.step → get_or l.old t (Clear 0) ≡ get_or l.new t (Clear 0)
