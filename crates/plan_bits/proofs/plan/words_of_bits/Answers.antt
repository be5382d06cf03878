use Rattle.std.proofs.Common.{◌≡◌, ◌<◌, length, IfSome, ap, sym, subst, ◌∙◌, arith}
use Rattle.listed.proofs.SumLaws.{sum_below-suc, sum_below-zero}
use Rattle.ct_base.specs.Access.{signal_of}
use Rattle.ct_base.specs.declared.signal.Signal.{Signal}
use Rattle.program_model.specs.Columns.{letters_of}
use Rattle.plan_bits.specs.inner.Parts.{IsWordOfBits}
use Rattle.plan_bits.proofs.PartLaws.{few_bits}
use Rattle.plan_bits.proofs.PlanLaws.{word_more}
use Rattle.plan_bits.proofs.plan.words_of_bits.Goals as goal

pub loop-number-init : goal.loop-number-init
loop-number-init c = record {
  first = sym (sum_below-zero (λ r. length (letters_of (signal_of c.args.net.now.signals r))));
  words = record { one_per_signal = ap length c.new-words.ensures; each = λ s inside. absurd (omega (arith, inside)) };
}

pub overflow_add-first : goal.overflow_add-first
overflow_add-first c =
    let many : c.len-first.result ≡ length (letters_of (signal_of c.args.net.now.signals c.loop-number.number)) =
    c.len-first.ensures ∙ ap length c.in_ok-letters.ensures ∙ ap (λ (signal : Signal). length (letters_of signal)) c.signal.ensures.value in
    let inside : c.loop-number.number < length c.args.net.now.signals = omega (arith, c.loop-number-test.true, c.len-number-end.ensures) in
    omega (arith, c.loop-number.invariant.first, many, few_bits c.args.net.now c.loop-number.number c.requires.valid inside)

pub loop-number-preserved : goal.loop-number-preserved
loop-number-preserved c =
    let net = c.args.net.now in
    let many : c.len-first.result ≡ length (letters_of (signal_of net.signals c.loop-number.number)) =
    c.len-first.ensures ∙ ap length c.in_ok-letters.ensures ∙ ap (λ (signal : Signal). length (letters_of signal)) c.signal.ensures.value in
    let word : IsWordOfBits net c.args.bits.now c.loop-number.number c.in-Some.word =
    subst (λ found. IfSome found (IsWordOfBits net c.args.bits.now c.loop-number.number)) c.in-Some.is c.in_ok-word.ensures.word in
    record {
      first = omega (arith, c.loop-number.invariant.first, many, sum_below-suc c.loop-number.number (λ r. length (letters_of (signal_of net.signals r))));
      words = word_more net c.args.bits.now c.loop-number.number c.loop-number.words c.push.new.self c.in-Some.word c.loop-number.invariant.words word c.in_ok-push-in-Some.ensures.ok;
    }
