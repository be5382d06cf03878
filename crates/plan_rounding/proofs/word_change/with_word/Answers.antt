use Rattle.std.proofs.Common.{sym}
use Rattle.plan_rounding.proofs.PlanLaws.{plan_of_words, with_word_is_admissible}
use Rattle.plan_rounding.proofs.word_change.with_word.Goals as goal

pub returns : goal.returns
returns c =
    plan_of_words c.args.net.now _ c.in_ok-words.words (sym c.in_ok-words.ensures)
    (with_word_is_admissible c.args.net.now c.args.plan.now c.args.signal c.args.word.now c.requires.admissible c.requires.length c.requires.word)
