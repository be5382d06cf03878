use Rattle.std.proofs.Common.{length, IfSome, Ok, ap, subst, ◌∙◌}
use Rattle.plan_bits.specs.inner.Parts.{AreWordsOfBits}
use Rattle.plan_bits.proofs.PlanLaws.{plan_shows_bits, words_are_admissible, words_have_bits}
use Rattle.plan_bits.proofs.plan.plan_of_bits.Goals as goal

pub returns-in-Some-clause-admissible : goal.returns-in-Some-clause-admissible
returns-in-Some-clause-admissible c = words_are_admissible c.args.net.now c.args.bits.now (record { words = c.in-Some.words }) (subst (λ found. IfSome found (AreWordsOfBits c.args.net.now c.args.bits.now (length c.args.net.now.signals))) c.in-Some.is c.in_ok-words.ensures.words)

pub returns-in-Some-clause-bits : goal.returns-in-Some-clause-bits
returns-in-Some-clause-bits c = words_have_bits c.args.net.now c.args.bits.now c.in-Some.words c.requires.columns (subst (λ found. IfSome found (AreWordsOfBits c.args.net.now c.args.bits.now (length c.args.net.now.signals))) c.in-Some.is c.in_ok-words.ensures.words)

pub returns-in-None-clause-none : goal.returns-in-None-clause-none
returns-in-None-clause-none c = λ none plan admissible is. c.words_of_bits.ensures.none (c.in_ok-words.was ∙ ap Ok c.in-None.is) plan.words (plan_shows_bits c.args.net.now c.args.bits.now plan admissible is)
