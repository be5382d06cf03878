-- The first word and the pairs so far are added.
use Rattle.std.proofs.Common.{◌≡◌, ◌++◌, take}
use Rattle.std.specs.Prelude.{flat_map}
use Rattle.cert_format.specs.inner.Spaces.{spaced_pair}
use Rattle.cert_format.proofs.writing.push_leaf.Given as goal

abbrev pub invariant-loop-pair : goal.invariant-loop-pair
invariant-loop-pair l = l.text.items ≡ (l.fn.text.items ++ l.word) ++ flat_map spaced_pair (take l.pair-index l.pairs)
