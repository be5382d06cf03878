use Rattle.std.proofs.Common.{◌≡◌, ◌++◌, take}
use Rattle.std.specs.Prelude.{flat_map}
use Rattle.plan_point.specs.inner.Points.{branch_counts}
use Rattle.plan_point.proofs.encoding.cells.push_branches.Given as goal

abbrev pub invariant-loop-target : goal.invariant-loop-target
invariant-loop-target l = l.values.items ≡ l.initial.values.items ++ flat_map (branch_counts l.cells l.units) (take l.target-index l.turns)
