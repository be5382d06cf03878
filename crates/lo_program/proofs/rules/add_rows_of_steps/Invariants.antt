use Rattle.ct_base.specs.Access.{signal_of}
use Rattle.listed.specs.Below.{join_below}
use Rattle.program_model.specs.RuleRows.{rule_rows_at}
use Rattle.lo_program.specs.inner.Adding.{Adds}
use Rattle.lo_program.proofs.rules.add_rows_of_steps.Given as goal

-- the rows of the steps that were passed were added
abbrev pub invariant-loop-t : goal.invariant-loop-t
invariant-loop-t l = Adds l.net l.fn.builder l.builder (join_below l.t (rule_rows_at (signal_of l.net.signals l.bits.signal) l.net.steps l.bits.signal))
