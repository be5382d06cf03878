-- The plan stays admissible.
use Rattle.traffic_model.specs.Runs.{IsAdmissiblePlan}
use Rattle.plan_rounding.proofs.splits.split_plan.Given as goal

abbrev pub invariant-loop-signal : goal.invariant-loop-signal
invariant-loop-signal l = IsAdmissiblePlan l.net l.plan
