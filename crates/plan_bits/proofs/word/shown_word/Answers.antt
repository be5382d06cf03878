use Rattle.std.proofs.Common.{List, length, map, ap, sym, subst, ◌≡◌, ◌∙◌, arith}
use Rattle.listed.proofs.TableLaws.{table_of-zero}
use Rattle.listed.specs.Below.{table_of}
use Rattle.ct_base.specs.declared.plan.Letter.{Letter}
use Rattle.program_model.proofs.Segments.{letter_in}
use Rattle.plan_bits.specs.inner.Parts.{IsAmong, bits_where, part_of_signal}
use Rattle.plan_bits.proofs.PartLaws.{length-part_of_signal}
use Rattle.plan_bits.proofs.WordLaws.{letter_among, letter_shows, one_letter_more}
use Rattle.plan_bits.proofs.word.shown_word.Goals as goal

pub loop-step-init : goal.loop-step-init
loop-step-init c = ap (map (bits_where c.args.letters.now)) c.new-word.ensures ∙ sym (table_of-zero (part_of_signal c.args.net.now c.args.bits.now c.args.number))

pub letter_of_bits-requires : goal.letter_of_bits-requires
letter_of_bits-requires c =
    ap length c.bits_of_signal-part.ensures
    ∙ length-part_of_signal c.args.net.now c.args.bits.now c.args.number c.loop-step.step c.requires.columns c.loop-step-test.true c.requires.inside
    ∙ sym (ap length c.requires.letters)

pub returns-in-None-clause-none : goal.returns-in-None-clause-none
returns-in-None-clause-none c = λ none word is.
    let net = c.args.net.now in
    let letter : Letter = letter_in word c.loop-step.step in
    let among : IsAmong c.args.letters.now letter =
    subst (λ (letters : List Letter). IsAmong letters letter) (sym c.requires.letters)
    (letter_among net c.args.bits.now c.args.number word c.loop-step.step c.requires.valid c.requires.inside is c.loop-step-test.true) in
    c.letter_of_bits.ensures.none c.in-None.is letter among
    (c.bits_of_signal-part.ensures
    ∙ letter_shows net c.args.bits.now c.args.number word c.loop-step.step is.shows c.loop-step-test.true
    ∙ ap (λ (letters : List Letter). bits_where letters letter) (sym c.requires.letters))

pub loop-step-preserved : goal.loop-step-preserved
loop-step-preserved c =
    one_letter_more (bits_where c.args.letters.now) (part_of_signal c.args.net.now c.args.bits.now c.args.number) c.loop-step.step c.loop-step.word c.push.new.self c.in-Some.letter c.loop-step.invariant
    (sym c.bits_of_signal-part.ensures ∙ c.in-Some.ensures.letter) c.in_ok-push-in-Some.ensures.ok

pub returns-clause-shows : goal.returns-clause-shows
returns-clause-shows c =
    let part = part_of_signal c.args.net.now c.args.bits.now c.args.number in
    let all : c.loop-step.step ≡ c.args.net.now.steps = omega (arith, c.loop-step-test.false, c.loop-step.auto.step-end) in
    ap (λ (letters : List Letter). map (bits_where letters) c.loop-step.word) (sym c.requires.letters) ∙ c.loop-step.invariant ∙ ap (λ n. table_of n part) all
