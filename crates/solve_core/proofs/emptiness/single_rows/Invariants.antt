use Rattle.std.proofs.Common.{◌≡◌}
use Rattle.solve_core.proofs.emptiness.single_rows.Given as goal

abbrev pub invariant-loop-entry : goal.invariant-loop-entry
invariant-loop-entry l = l.costed ≡ l.initial.costed
