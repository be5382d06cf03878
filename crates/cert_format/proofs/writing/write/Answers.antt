-- The lines in their order.
use Rattle.std.proofs.Common.{rules, FitsSigned, w64, [], ◌∷◌, ◌++◌, ap, ◌∙◌}
use Rattle.std.specs.Prelude.{codes, flat_map}
use Rattle.std.proofs.lemmas.Int.{to_z-of_z}
use Rattle.certificate_model.specs.Text.{node_line}
use Rattle.cert_format.specs.Marks.{node_of}
use Rattle.cert_format.specs.declared.cert.Node.{Node}
use Rattle.cert_format.proofs.WriteLaws.{certificate_is_written}
use Rattle.cert_format.proofs.writing.write.Goals as goal

pub returns : goal.returns
returns c =
    let bound : FitsSigned w64 c.args.cert.now.bound = search rules in
    certificate_is_written c.args.cert.now.bound c.args.cert.now.nodes c.extend_from_slice.new.self.items c.push_bound.new.text.items c.push_nodes.new.text.items c.extend_from_slice-2.new.self.items
    (c.in_ok-extend_from_slice.ensures.items ∙ ap (λ text. text ++ codes "ctm-cert 1\n") c.in_ok-text.ensures.items)
    (simp to_z-of_z at c.in_ok-push_bound.ensures)
    (c.in_ok-push_nodes.ensures ∙ ap (λ nodes. c.push_bound.new.text.items ++ flat_map (λ (node : Node). node_line (node_of node) ++ 10 ∷ []) nodes) c.as_slice-nodes.ensures)
    c.in_ok-extend_from_slice-2.ensures.items
