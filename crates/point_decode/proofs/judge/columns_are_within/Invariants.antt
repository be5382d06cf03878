-- The columns that are left have the breaks of all.
use Rattle.std.proofs.Common.{◌≡◌, drop}
use Rattle.refusals.specs.Faults.{items_from, per_item}
use Rattle.point_decode.specs.Breaks.{column_breaks}
use Rattle.point_decode.proofs.judge.columns_are_within.Given as goal

abbrev pub invariant-loop-j : goal.invariant-loop-j
invariant-loop-j l = per_item l.program.columns (column_breaks l.point) ≡ items_from l.j (drop l.j l.program.columns) (column_breaks l.point)
