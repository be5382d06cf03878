-- The name, and the two phases.
use Rattle.std.specs.Prelude.{string_bytes}
use Rattle.generated_nets.proofs.TextLaws.{signal_is_added}
use Rattle.generated_nets.proofs.signals.push_signal.Goals as goal

pub returns : goal.returns
returns c =
    signal_is_added (string_bytes c.args.text.now) (string_bytes c.write.new.self) (string_bytes c.push_phase.new.text) (string_bytes c.push_phase-2.new.text)
    c.args.junction c.in_ok-write.ensures.bytes c.in_ok-push_phase.ensures c.in_ok-push_phase-2.ensures
