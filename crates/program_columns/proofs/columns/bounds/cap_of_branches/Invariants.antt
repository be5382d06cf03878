use Rattle.std.proofs.Common.{◌≡◌, ◌≤◌, take}
use Rattle.program_columns.specs.inner.Bounds.{cap_up_to}
use Rattle.program_columns.proofs.columns.bounds.cap_of_branches.Given as goal

abbrev pub invariant-loop-target : goal.invariant-loop-target
invariant-loop-target l = record {
  value : l.cap ≡ cap_up_to l.cells l.most (take l.target-index l.turns);
  few : l.cap ≤ l.most;
}
