-- The branch along the street, and the way off.
use Rattle.std.specs.Prelude.{string_bytes}
use Rattle.generated_nets.proofs.TextLaws.{turns_are_added}
use Rattle.generated_nets.proofs.links.push_turns.Goals as goal

pub returns : goal.returns
returns c =
    turns_are_added (string_bytes c.args.text.now) (string_bytes c.write.new.self) (string_bytes c.write-2.new.self) c.args.number c.args.junction
    c.in_ok-write.ensures.bytes c.in_ok-write-2.ensures.bytes
