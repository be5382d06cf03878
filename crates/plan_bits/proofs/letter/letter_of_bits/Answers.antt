use Rattle.std.proofs.Common.{arith}
use Rattle.plan_bits.proofs.LetterLaws.{none_is_shown}
use Rattle.plan_bits.proofs.letter.letter_of_bits.Goals as goal

pub returns-clause-none : goal.returns-clause-none
returns-clause-none c = λ none letter among is.
    none_is_shown c.args.letters.now c.args.bits.now letter (λ k inside. c.loop-place.invariant k (omega (arith, inside, c.loop-place-test.false, c.loop-place.auto.place-end))) among is
