use Rattle.std.proofs.Common.{◌≡◌}
use Rattle.std.specs.Prelude.{Ok}
use Rattle.listed.specs.Below.{join_below}
use Rattle.ct_base.specs.Access.{signal_of}
use Rattle.program_model.specs.Numbers.{bits_before}
use Rattle.program_model.specs.RuleRows.{rule_rows_at}
use Rattle.rule_breaks.specs.Breaks.{value_in}
use Rattle.rule_breaks.specs.inner.Walk.{walk}
use Rattle.rule_breaks.proofs.walk.pass_signals.Given as goal

-- the rows of the signals before were passed, and their bits are counted
abbrev pub invariant-loop-signal : goal.invariant-loop-signal
invariant-loop-signal l = record {
  passed : walk (value_in l.net l.bits) l.steps 0 (join_below l.signal (λ s. join_below l.net.steps (rule_rows_at (signal_of l.net.signals s) l.net.steps s))) ≡ Ok l.number;
  first : l.first ≡ bits_before l.net.signals l.signal;
}
