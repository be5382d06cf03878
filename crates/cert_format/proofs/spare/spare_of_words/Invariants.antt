-- The walk stands behind some whole pairs.
use Rattle.std.proofs.Common.{◌-◌, length}
use Rattle.cert_format.specs.inner.SparePairs.{IsWalked}
use Rattle.cert_format.proofs.spare.spare_of_words.Given as goal

abbrev pub invariant-pairs : goal.invariant-pairs
invariant-pairs l = IsWalked l.most l.words l.pairs l.start l.end

abbrev pub decreases-pairs : goal.decreases-pairs
decreases-pairs l = length l.words - l.end
