use Rattle.solve_core.specs.inner.Running.{IsRunning, turns_left}
use Rattle.solve_core.proofs.running.Running.run.Given as goal

abbrev pub invariant-turns : goal.invariant-turns
invariant-turns l = IsRunning l.net l.budget l.self

abbrev pub decreases-turns : goal.decreases-turns
decreases-turns l = turns_left l.budget l.self
