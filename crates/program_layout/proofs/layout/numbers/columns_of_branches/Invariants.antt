use Rattle.std.proofs.Common.{◌≡◌, ◌≤◌, ◌*◌}
use Rattle.program_model.specs.Numbers.{branches_before}
use Rattle.program_layout.proofs.layout.numbers.columns_of_branches.Given as goal

abbrev pub invariant-loop-j : goal.invariant-loop-j
invariant-loop-j l = record {
  value : l.columns ≡ branches_before l.branches l.j;
  few : l.columns ≤ 2 * l.j;
}
