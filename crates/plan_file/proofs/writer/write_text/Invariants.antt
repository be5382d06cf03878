-- The blocks of the signals so far are added.
use Rattle.std.proofs.Common.{◌≡◌}
use Rattle.std.specs.Prelude.{string_bytes}
use Rattle.plan_file.specs.inner.Writing.{text_below}
use Rattle.plan_file.proofs.writer.write_text.Given as goal

abbrev pub invariant-loop-signal : goal.invariant-loop-signal
invariant-loop-signal l = string_bytes l.text ≡ text_below l.named.names l.plan l.signal
