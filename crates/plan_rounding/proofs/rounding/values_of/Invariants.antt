-- The first values are those of the point.
use Rattle.std.proofs.Common.{◌≡◌}
use Rattle.std.specs.Prelude.{pos, slice_index_or}
use Rattle.listed.specs.Below.{table_of}
use Rattle.plan_rounding.proofs.rounding.values_of.Given as goal

abbrev pub invariant-loop-column : goal.invariant-loop-column
invariant-loop-column l = l.values.items ≡ table_of l.column (λ c. slice_index_or l.point c (pos 0))
