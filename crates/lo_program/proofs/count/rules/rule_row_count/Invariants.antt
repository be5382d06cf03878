use Rattle.std.proofs.Common.{◌≡◌, ◌≤◌, ◌*◌, length}
use Rattle.listed.specs.Below.{join_below}
use Rattle.lo_program.proofs.StepLaws.{rows_of_signal}
use Rattle.lo_program.proofs.count.rules.rule_row_count.Given as goal

-- the rows of the signals that were passed
abbrev pub invariant-loop-s : goal.invariant-loop-s
invariant-loop-s l = record {
  value : l.rows ≡ length (join_below l.s (rows_of_signal l.net));
  few : l.rows ≤ 240000 * l.s;
}
