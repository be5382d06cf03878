-- The stretch behind the last junction, one with demand, and one without.
use Rattle.std.proofs.Common.{◌<◌, ◌≤◌, arith}
use Rattle.std.specs.Prelude.{string_bytes}
use Rattle.generated_nets.specs.Generated.{junctions_of}
use Rattle.generated_nets.proofs.TextLaws.{head_is_added, street_behind, street_is_added}
use Rattle.generated_nets.proofs.links.push_street.Goals as goal

pub returns-then-junction-junctions : goal.returns-then-junction-junctions
returns-then-junction-junctions c =
    let behind : junctions_of c.args.number ≤ c.args.junction = omega (arith, c.junctions.ensures, c.if-junction-junctions.true) in
    rw (street_behind c.args.number c.args.junction behind) c.push_link.ensures

pub returns-in_ok-push_demand : goal.returns-in_ok-push_demand
returns-in_ok-push_demand c =
    let within : c.args.junction < junctions_of c.args.number = omega (arith, c.junctions.ensures, c.if-junction-junctions.false) in
    head_is_added (string_bytes c.args.text.now) (string_bytes c.push_link-2.new.text) (string_bytes c.push_turns.new.text) (string_bytes c.push_gate.new.text) (string_bytes c.push_demand.new.text)
    c.args.number c.args.junction within c.if-junction-eq0.true c.in_ok-push_link.ensures c.in_ok-push_turns.ensures c.in_ok-push_gate.ensures c.in_ok-push_demand.ensures

pub returns-else-junction-eq0 : goal.returns-else-junction-eq0
returns-else-junction-eq0 c =
    let within : c.args.junction < junctions_of c.args.number = omega (arith, c.junctions.ensures, c.if-junction-junctions.false) in
    street_is_added (string_bytes c.args.text.now) (string_bytes c.push_link-2.new.text) (string_bytes c.push_turns.new.text) (string_bytes c.push_gate.new.text)
    c.args.number c.args.junction within c.if-junction-eq0.false c.in_ok-push_link.ensures c.in_ok-push_turns.ensures c.in_ok-push_gate.ensures
