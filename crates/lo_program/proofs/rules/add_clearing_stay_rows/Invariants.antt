use Rattle.listed.specs.Below.{join_below}
use Rattle.ct_base.specs.Access.{phase_of, signal_of}
use Rattle.ct_base.specs.declared.plan.Letter.TheVariants.{Clear}
use Rattle.program_model.specs.RuleRows.{stay_rows}
use Rattle.lo_program.specs.inner.Adding.{Adds}
use Rattle.lo_program.proofs.rules.add_clearing_stay_rows.Given as goal

-- the rows of the phases that were passed were added
abbrev pub invariant-loop-p : goal.invariant-loop-p
invariant-loop-p l = Adds l.net l.fn.builder l.builder (join_below l.p (λ p. stay_rows l.net.steps l.bits.signal l.t (Clear p) (phase_of (signal_of l.net.signals l.bits.signal) p).clear))
