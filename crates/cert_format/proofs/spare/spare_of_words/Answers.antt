-- A pair is passed, and what begins behind the last one ends the walk.
use Rattle.std.proofs.Common.{length, ◌<◌, subst}
use Rattle.std.proofs.lemmas.List.{take_rest}
use Rattle.cert_format.specs.declared.spare.TheConstants.{PAIR_BYTES}
use Rattle.cert_format.specs.inner.SparePairs.{IsFirstPair, NamesNoPairs}
use Rattle.cert_format.proofs.SpareLaws.{at_first_word, nothing_is_left, pair_kept, pair_spared, part_is_left}
use Rattle.cert_format.proofs.spare.spare_of_words.Goals as goal

pub pairs-init : goal.pairs-init
pairs-init c = at_first_word c.args.most c.args.words.now

pub pairs-preserved-then-pairs-most : goal.pairs-preserved-then-pairs-most
pairs-preserved-then-pairs-most c =
    pair_kept c.args.most c.args.words.now c.pairs.pairs c.pairs.start c.pairs.end c.in-Pair.count c.pairs.invariant
    (subst (λ rest. IsFirstPair rest c.in-Pair.count) (take_rest c.args.words.now c.pairs.end) c.in-Pair.ensures) c.if-pairs-most.true

pub pairs-preserved : goal.pairs-preserved
pairs-preserved c =
    pair_spared c.args.most c.args.words.now c.pairs.pairs c.pairs.start c.pairs.end c.in-Pair.count c.pairs.invariant
    (subst (λ rest. IsFirstPair rest c.in-Pair.count) (take_rest c.args.words.now c.pairs.end) c.in-Pair.ensures) c.if-pairs-most.false

pub returns-in-Part : goal.returns-in-Part
returns-in-Part c =
    part_is_left c.args.most c.args.words.now c.pairs.pairs c.pairs.start c.pairs.end c.pairs.invariant
    (subst (λ rest. length rest < PAIR_BYTES) (take_rest c.args.words.now c.pairs.end) c.in-Part.ensures)

pub returns-in-Other : goal.returns-in-Other
returns-in-Other c =
    nothing_is_left c.args.most c.args.words.now c.pairs.pairs c.pairs.start c.pairs.end c.pairs.invariant
    (subst NamesNoPairs (take_rest c.args.words.now c.pairs.end) c.in-Other.ensures)
