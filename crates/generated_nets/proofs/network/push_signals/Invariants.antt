-- The signals so far are added.
use Rattle.std.proofs.Common.{◌≡◌, ◌++◌}
use Rattle.std.specs.Prelude.{string_bytes}
use Rattle.listed.specs.Below.{join_below}
use Rattle.generated_nets.specs.Generated.{signal_text}
use Rattle.generated_nets.proofs.network.push_signals.Given as goal

abbrev pub invariant-loop-junction : goal.invariant-loop-junction
invariant-loop-junction l = string_bytes l.text ≡ string_bytes l.fn.text ++ join_below l.junction signal_text
