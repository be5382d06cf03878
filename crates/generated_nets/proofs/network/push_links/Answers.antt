-- The head of the street, and one junction after another.
use Rattle.std.proofs.Common.{◌++◌, ◌∙◌, append_assoc, sym}
use Rattle.std.specs.Prelude.{string_bytes}
use Rattle.generated_nets.specs.Generated.{junction_text, street_text}
use Rattle.generated_nets.proofs.TextLaws.{junction_is_added, no_part, part_is_added}
use Rattle.generated_nets.proofs.network.push_links.Goals as goal

pub loop-junction-init : goal.loop-junction-init
loop-junction-init c =
    c.in_ok-push_street.ensures ∙ no_part (string_bytes c.args.text.now ++ street_text c.args.number 0) (junction_text c.args.number)
    ∙ append_assoc (string_bytes c.args.text.now) (street_text c.args.number 0) _

pub loop-junction-preserved : goal.loop-junction-preserved
loop-junction-preserved c =
    let j = c.loop-junction.junction in
    let head = street_text c.args.number 0 in
    let junction = junction_is_added (string_bytes c.loop-junction.text) (string_bytes c.push_side.new.text) (string_bytes c.push_way_off.new.text) (string_bytes c.push_street-in-loop-junction.new.text) c.args.number j
    c.in_ok-push_side.ensures c.in_ok-push_way_off.ensures c.in_ok-push_street-2.ensures in
    part_is_added (string_bytes c.args.text.now ++ head) (string_bytes c.loop-junction.text) (string_bytes c.push_street-in-loop-junction.new.text) (junction_text c.args.number) j
    (c.loop-junction.invariant ∙ sym (append_assoc (string_bytes c.args.text.now) head _)) junction
    ∙ append_assoc (string_bytes c.args.text.now) head _
