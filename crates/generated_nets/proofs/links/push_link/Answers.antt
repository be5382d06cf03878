-- The name, and then the other keys.
use Rattle.std.specs.Prelude.{string_bytes}
use Rattle.generated_nets.proofs.TextLaws.{link_is_added}
use Rattle.generated_nets.proofs.links.push_link.Goals as goal

pub returns : goal.returns
returns c =
    link_is_added (string_bytes c.args.text.now) (string_bytes c.write.new.self) (string_bytes c.write-2.new.self) c.args.letter.now c.args.junction c.args.cells
    c.in_ok-write.ensures.bytes c.in_ok-write-2.ensures.bytes
