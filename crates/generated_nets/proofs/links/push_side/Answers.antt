-- What each link has, where it leads, its gate and its demand.
use Rattle.std.specs.Prelude.{string_bytes}
use Rattle.generated_nets.proofs.TextLaws.{side_is_added}
use Rattle.generated_nets.proofs.links.push_side.Goals as goal

pub returns : goal.returns
returns c =
    side_is_added (string_bytes c.args.text.now) (string_bytes c.push_link.new.text) (string_bytes c.write.new.self) (string_bytes c.push_gate.new.text) (string_bytes c.push_demand.new.text)
    c.args.number c.args.junction c.in_ok-push_link.ensures c.in_ok-write.ensures.bytes c.in_ok-push_gate.ensures c.in_ok-push_demand.ensures
