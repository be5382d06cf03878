-- The rows that are left have the breaks of all.
use Rattle.std.proofs.Common.{◌≡◌, drop}
use Rattle.refusals.specs.Faults.{items_from, per_item}
use Rattle.point_decode.specs.Breaks.{row_breaks}
use Rattle.point_decode.proofs.judge.rows_are_met.Given as goal

abbrev pub invariant-loop-i : goal.invariant-loop-i
invariant-loop-i l = per_item l.program.rows (row_breaks l.point) ≡ items_from l.i (drop l.i l.program.rows) (row_breaks l.point)
