-- A line is its words.
use Rattle.std.proofs.Common.{ap, sym, ◌∙◌}
use Rattle.std.specs.Prelude.{option_map}
use Rattle.cert_format.specs.Marks.{marked, with_first}
use Rattle.cert_format.proofs.LineLaws.{node_alone, node_behind, none_marked}
use Rattle.cert_format.proofs.line.read_node.Goals as goal

pub returns-in-Some-clause-node : goal.returns-in-Some-clause-node
returns-in-Some-clause-node c = rw (node_behind c.args.line.now c.in-Some.word.now c.in-Some.words.now c.in-Some.ensures) c.read_words.ensures.node

pub returns-in-None-clause-node : goal.returns-in-None-clause-node
returns-in-None-clause-node c =
    ap (option_map (with_first c.args.most)) (node_alone c.args.line.now c.in-None.ensures ∙ c.read_word.ensures) ∙ none_marked c.args.most c.read_word.result
    ∙ ap (marked c.read_word.result) (sym c.clear.ensures.items)
