-- The first word decides what the words behind it are read as.
use Rattle.std.proofs.Common.{ap, sym, ◌∙◌}
use Rattle.std.specs.Prelude.{option_map}
use Rattle.texts.specs.Lines.{words_of}
use Rattle.cert_format.specs.Marks.{with_first}
use Rattle.cert_format.proofs.LineLaws.{split_first, other_first}
use Rattle.cert_format.proofs.line.read_words.Goals as goal

pub returns-then-eq-clause-node : goal.returns-then-eq-clause-node
returns-then-eq-clause-node c = split_first c.args.most c.args.word.now (words_of c.args.words.now) (sym c.if-eq.ensures) ∙ sym (c.read_split.ensures c.args.pairs.now.items)

pub returns-clause-node : goal.returns-clause-node
returns-clause-node c = ap (option_map (with_first c.args.most)) (other_first c.args.word.now c.args.words.now (sym c.if-eq.ensures) (sym c.if-eq-2.ensures) (sym c.if-eq-3.ensures))
