use Rattle.std.proofs.Common.{◌≡◌, ◌++◌}
use Rattle.listed.specs.Below.{join_below}
use Rattle.plan_point.specs.inner.Points.{cell_counts}
use Rattle.plan_point.proofs.encoding.cells.push_cells.Given as goal

abbrev pub invariant-loop-number : goal.invariant-loop-number
invariant-loop-number l = l.values.items ≡ l.initial.values.items ++ join_below l.number (cell_counts l.net.cells l.letters l.units)
