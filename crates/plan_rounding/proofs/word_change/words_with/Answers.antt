use Rattle.std.proofs.Common.{◌≡◌, ◌∙◌, List, ap, sym}
use Rattle.std.specs.Prelude.{◌==◌, if◌then◌else◌}
use Rattle.listed.proofs.TableLaws.{table_of-zero}
use Rattle.ct_base.specs.declared.plan.Letter.{Letter}
use Rattle.program_layout.proofs.LayoutLaws.{table_more}
use Rattle.traffic_model.specs.Runs.{word_of}
use Rattle.plan_rounding.proofs.PlanLaws.{item_is}
use Rattle.plan_rounding.proofs.word_change.words_with.Goals as goal

pub loop-number-init : goal.loop-number-init
loop-number-init c = c.new-words.ensures ∙ sym (table_of-zero (λ s. if s == c.args.signal then c.args.word.now else word_of c.args.plan.now s))

pub loop-number-preserved : goal.loop-number-preserved
loop-number-preserved c =
    let old : c.old-item.result ≡ word_of c.args.plan.now c.loop-number.number =
    item_is c.as_slice-old-items.result.now c.args.plan.now.words c.loop-number.number c.old-item.result c.loop-number-test.true c.old-item.is c.as_slice-old-items.ensures in
    c.in_ok-push.ensures.ok
    ∙ table_more c.loop-number.number (λ s. if s == c.args.signal then c.args.word.now else word_of c.args.plan.now s) c.loop-number.words c.in_ok-copy.field-0 c.loop-number.invariant
    (c.in_ok-copy.ensures ∙ c.chosen.ensures ∙ ap (λ (word : List Letter). if c.loop-number.number == c.args.signal then c.args.word.now else word) old)
