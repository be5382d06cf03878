use Rattle.std.proofs.Common.{◌≡◌}
use Rattle.solve_core.proofs.emptiness.completed_sum.Given as goal

abbrev pub invariant-loop-term : goal.invariant-loop-term
invariant-loop-term l = l.costed ≡ l.initial.costed
