use Rattle.listed.specs.Below.{join_below}
use Rattle.lo_program.specs.inner.Adding.{Adds}
use Rattle.lo_program.proofs.StepLaws.{rows_of_signal}
use Rattle.lo_program.proofs.rules.add_rule_rows.Given as goal

-- the rows of the signals that were passed were added
abbrev pub invariant-loop-signal : goal.invariant-loop-signal
invariant-loop-signal l = Adds l.net l.fn.builder l.builder (join_below l.signal (rows_of_signal l.net))
