-- What is kept is right.
use Rattle.kept_value.specs.Kept.{IsKeptOf}
use Rattle.search_parts.proofs.changes.raise_all.Given as goal

abbrev pub invariant-loop-row : goal.invariant-loop-row
invariant-loop-row l = IsKeptOf l.program l.kept
