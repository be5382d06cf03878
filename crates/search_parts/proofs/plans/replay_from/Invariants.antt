-- The replay is that of the plan.
use Rattle.cell_replay.specs.Keeps.{Keeps}
use Rattle.search_parts.proofs.plans.replay_from.Given as goal

abbrev pub invariant-loop : goal.invariant-loop
invariant-loop l = Keeps l.net l.plan l.kept
