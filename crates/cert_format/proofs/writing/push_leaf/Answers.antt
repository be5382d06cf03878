-- The first word, and each further one behind a space.
use Rattle.std.proofs.Common.{◌++◌, ap, ◌∙◌, arith}
use Rattle.std.specs.Prelude.{flat_map}
use Rattle.std.proofs.lemmas.List.{take_all}
use Rattle.cert_format.specs.inner.Spaces.{spaced_pair}
use Rattle.cert_format.proofs.WriteLaws.{leaf_is_added}
use Rattle.cert_format.proofs.writing.push_leaf.Goals as goal

pub returns : goal.returns
returns c =
    leaf_is_added c.args.text.now.items c.args.word.now c.loop-pair.text.items c.args.pairs.now
    (c.loop-pair.invariant ∙ ap (λ pairs. (c.args.text.now.items ++ c.args.word.now) ++ flat_map spaced_pair pairs) (take_all c.loop-pair.pair-index c.args.pairs.now (omega arith)))
