use Rattle.certificate_model.proofs.TextLaws.{node_has_one_line}
use Rattle.certificate_model.proofs.laws.nodes_have_one_line.Goals as goal

pub returns : goal.returns
returns c = node_has_one_line
