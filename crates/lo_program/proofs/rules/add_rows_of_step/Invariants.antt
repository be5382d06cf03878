use Rattle.ct_base.specs.Access.{signal_of}
use Rattle.listed.specs.Below.{join_below}
use Rattle.lo_program.specs.inner.Adding.{Adds}
use Rattle.lo_program.specs.inner.Kinds.{rows_at}
use Rattle.lo_program.proofs.rules.add_rows_of_step.Given as goal

-- the rows of the kinds that were passed were added
abbrev pub invariant-loop-kind : goal.invariant-loop-kind
invariant-loop-kind l = Adds l.net l.fn.builder l.builder (join_below l.kind-index (rows_at (signal_of l.net.signals l.bits.signal) l.net.steps l.bits.signal l.t))
