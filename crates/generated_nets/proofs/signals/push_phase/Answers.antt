-- The name and the least green, and then the rest.
use Rattle.std.specs.Prelude.{string_bytes}
use Rattle.generated_nets.proofs.TextLaws.{phase_is_added}
use Rattle.generated_nets.proofs.signals.push_phase.Goals as goal

pub returns : goal.returns
returns c =
    phase_is_added (string_bytes c.args.text.now) (string_bytes c.write.new.self) (string_bytes c.write-2.new.self) c.args.name.now c.args.following.now c.args.least c.args.greatest
    c.in_ok-write.ensures.bytes c.in_ok-write-2.ensures.bytes
