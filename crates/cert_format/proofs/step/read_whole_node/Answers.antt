-- A line has no more pairs than bytes.
use Rattle.std.proofs.Common.{◌≡◌, Option, arith, length, subst}
use Rattle.std.specs.Prelude.{IfOk}
use Rattle.certificate_model.specs.Nodes as model
use Rattle.cert_format.specs.Marks.{marked}
use Rattle.cert_format.proofs.LineLaws.{line_kept}
use Rattle.cert_format.proofs.step.read_whole_node.Goals as goal

pub returns : goal.returns
returns c =
    subst (λ (named : Option model.Node). IfOk c.read_node.result (λ mark. named ≡ marked mark c.read_node.new.pairs.items))
    (line_kept (length c.args.line.now) c.args.line.now (omega arith)) c.read_node.ensures.node
