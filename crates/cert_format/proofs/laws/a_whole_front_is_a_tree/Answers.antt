-- Both ways, line by line.
use Rattle.cert_format.proofs.FrontLaws.{tree_is_whole, whole_is_tree}
use Rattle.cert_format.proofs.laws.a_whole_front_is_a_tree.Goals as goal

pub returns : goal.returns
returns c = λ text b nodes. (whole_is_tree text b nodes, λ (tree, parts). tree_is_whole text b nodes tree parts.0 parts.1)
