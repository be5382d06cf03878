use Rattle.std.proofs.Common.{◌≡◌, ◌≤◌, ◌*◌, length}
use Rattle.listed.specs.Below.{join_below}
use Rattle.program_model.specs.RuleRows.{rule_rows_at}
use Rattle.lo_program.proofs.count.rules.rows_of_signal.Given as goal

-- the rows of the steps that were passed
abbrev pub invariant-loop-t : goal.invariant-loop-t
invariant-loop-t l = record {
  value : l.rows ≡ length (join_below l.t (rule_rows_at l.signal l.steps l.s));
  few : l.rows ≤ 1000 * l.t;
}
