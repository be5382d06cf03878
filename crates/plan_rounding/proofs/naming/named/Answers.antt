use Rattle.std.proofs.Common.{◌≡◌, ◌∙◌, ap, length, sym, arith}
use Rattle.listed.specs.Below.{table_of}
use Rattle.listed.proofs.TableLaws.{table_of-zero}
use Rattle.ct_base.specs.Access.{signal_of}
use Rattle.program_layout.proofs.LayoutLaws.{table_more}
use Rattle.plan_rounding.specs.Named.{named_word}
use Rattle.plan_rounding.proofs.PlanLaws.{named_plan_is_admissible, plan_of_words}
use Rattle.plan_rounding.proofs.naming.named.Goals as goal

pub loop-number-init : goal.loop-number-init
loop-number-init c = c.new-words.ensures ∙ sym (table_of-zero (λ s. named_word (signal_of c.args.net.now.signals s) c.args.long c.args.net.now.steps))

pub loop-number-preserved : goal.loop-number-preserved
loop-number-preserved c =
    c.in_ok-push.ensures.ok
    ∙ table_more c.loop-number.number (λ s. named_word (signal_of c.args.net.now.signals s) c.args.long c.args.net.now.steps) c.loop-number.words c.in_ok-named_word.field-0 c.loop-number.invariant
    (c.in_ok-named_word.ensures ∙ ap (λ signal. named_word signal c.args.long c.args.net.now.steps) c.signal.ensures.value)

pub returns-clause-admissible : goal.returns-clause-admissible
returns-clause-admissible c =
    let all : c.loop-number.number ≡ length c.args.net.now.signals = omega (arith, c.len-number-end.ensures) in
    let words : c.loop-number.words ≡ table_of (length c.args.net.now.signals) (λ s. named_word (signal_of c.args.net.now.signals s) c.args.long c.args.net.now.steps) =
    c.loop-number.invariant ∙ ap (λ n. table_of n (λ s. named_word (signal_of c.args.net.now.signals s) c.args.long c.args.net.now.steps)) all in
    plan_of_words c.args.net.now _ c.loop-number.words (sym words) (named_plan_is_admissible c.args.net.now c.args.long c.requires.valid)
