-- The first word decides.
use Rattle.std.proofs.Common.{sym}
use Rattle.cert_format.proofs.BrokenLaws.{no_pairs_is_broken, one_word_is_broken, other_word_is_broken}
use Rattle.cert_format.proofs.UnfinishedLaws.{spare_is}
use Rattle.cert_format.proofs.spare.spare_of.Goals as goal

pub returns-in_default : goal.returns-in_default
returns-in_default c = one_word_is_broken c.args.line.now c.requires.long c.in_default.ensures

pub returns-then-not-may_have_pairs : goal.returns-then-not-may_have_pairs
returns-then-not-may_have_pairs c =
    other_word_is_broken c.args.line.now c.in-Some.word.now c.in-Some.words.now c.requires.long c.in-Some.ensures (sym c.if-not-may_have_pairs.ensures)

pub returns-in-Some-spare_of_words : goal.returns-in-Some-spare_of_words
returns-in-Some-spare_of_words c =
    spare_is c.args.most c.args.line.now c.in-Some.word.now c.in-Some.words.now c.in-Some-spare_of_words.spare c.in-Some.ensures (sym c.if-not-may_have_pairs.ensures) c.in-Some-spare_of_words.ensures

pub returns-in-None : goal.returns-in-None
returns-in-None c =
    no_pairs_is_broken c.args.line.now c.in-Some.word.now c.in-Some.words.now c.requires.long c.in-Some.ensures (sym c.if-not-may_have_pairs.ensures) c.in-None.ensures
