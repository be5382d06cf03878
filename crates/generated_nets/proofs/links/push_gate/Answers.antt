-- The signal and the phase.
use Rattle.std.specs.Prelude.{string_bytes}
use Rattle.generated_nets.proofs.TextLaws.{gate_is_added}
use Rattle.generated_nets.proofs.links.push_gate.Goals as goal

pub returns : goal.returns
returns c = gate_is_added (string_bytes c.args.text.now) (string_bytes c.write.new.self) c.args.phase.now c.args.junction c.in_ok-write.ensures.bytes
