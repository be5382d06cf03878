use Rattle.std.proofs.Common.{◌≡◌}
use Rattle.std.specs.Prelude.{Ok}
use Rattle.listed.specs.Below.{join_below}
use Rattle.ct_base.specs.Access.{signal_of}
use Rattle.rule_breaks.specs.Breaks.{value_in}
use Rattle.rule_breaks.specs.inner.Kinds.{rows_at}
use Rattle.rule_breaks.specs.inner.Walk.{walk}
use Rattle.rule_breaks.proofs.walk.pass_kinds.Given as goal

-- the rows of the kinds before were passed
abbrev pub invariant-loop-kind : goal.invariant-loop-kind
invariant-loop-kind l =
    walk (value_in l.net l.bits) l.part.steps l.number (join_below l.kind-index (rows_at (signal_of l.net.signals l.part.signal) l.net.steps l.part.signal l.t)) ≡ Ok l.next
