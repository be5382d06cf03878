-- What is kept is right.
use Rattle.kept_value.specs.Kept.{IsKeptOf}
use Rattle.search_parts.proofs.ascents.ascend.Given as goal

abbrev pub invariant-loop : goal.invariant-loop
invariant-loop l = IsKeptOf l.program l.kept
