-- One signal after another.
use Rattle.std.specs.Prelude.{string_bytes}
use Rattle.generated_nets.specs.Generated.{signal_text}
use Rattle.generated_nets.proofs.TextLaws.{no_part, part_is_added}
use Rattle.generated_nets.proofs.network.push_signals.Goals as goal

pub loop-junction-init : goal.loop-junction-init
loop-junction-init c = no_part (string_bytes c.args.text.now) signal_text

pub loop-junction-preserved : goal.loop-junction-preserved
loop-junction-preserved c =
    part_is_added (string_bytes c.args.text.now) (string_bytes c.loop-junction.text) (string_bytes c.push_signal.new.text) signal_text c.loop-junction.junction c.loop-junction.invariant c.in_ok-push_signal.ensures
