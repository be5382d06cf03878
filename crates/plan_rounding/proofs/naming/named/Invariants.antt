-- There is a word for each signal that was reached.
use Rattle.std.proofs.Common.{◌≡◌}
use Rattle.listed.specs.Below.{table_of}
use Rattle.ct_base.specs.Access.{signal_of}
use Rattle.plan_rounding.specs.Named.{named_word}
use Rattle.plan_rounding.proofs.naming.named.Given as goal

abbrev pub invariant-loop-number : goal.invariant-loop-number
invariant-loop-number l = l.words ≡ table_of l.number (λ s. named_word (signal_of l.net.signals s) l.long l.net.steps)
