-- The lines of the nodes so far are added.
use Rattle.std.proofs.Common.{◌≡◌, [], ◌∷◌, ◌++◌, take}
use Rattle.std.specs.Prelude.{flat_map}
use Rattle.certificate_model.specs.Text.{node_line}
use Rattle.cert_format.specs.Marks.{node_of}
use Rattle.cert_format.specs.declared.cert.Node.{Node}
use Rattle.cert_format.proofs.writing.push_nodes.Given as goal

abbrev pub invariant-loop-node : goal.invariant-loop-node
invariant-loop-node l = l.text.items ≡ l.fn.text.items ++ flat_map (λ (node : Node). node_line (node_of node) ++ 10 ∷ []) (take l.node-index l.nodes)
