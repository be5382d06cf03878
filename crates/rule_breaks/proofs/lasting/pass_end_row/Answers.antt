use Rattle.std.proofs.Common.{◌+◌, ◌∙◌, arith}
use Rattle.std.specs.Prelude.{pos, neg_ℤ}
use Rattle.std.proofs.lemmas.Int.{ints}
use Rattle.std.proofs.lemmas.Bool.{le-ltb, lt-ltb}
use Rattle.program_model.specs.RuleRows.{end_row}
use Rattle.rule_breaks.specs.Breaks.{value_in}
use Rattle.rule_breaks.proofs.BitCounts.{end_sum}
use Rattle.rule_breaks.proofs.NamedSteps.{end_names}
use Rattle.rule_breaks.proofs.WalkLaws.{walk_at_least, walk_past}
use Rattle.rule_breaks.proofs.lasting.pass_end_row.Goals as goal

pub returns-then-t-most : goal.returns-then-t-most
returns-then-t-most c =
    let part = c.args.part.now in
    let sum = end_sum c.args.net.now c.args.bits.now part.signal c.args.t c.args.most c.steps_on-steps.result c.args.letter c.requires.part.values c.steps_on-steps.ensures.value in
    c.judge_at_least.ensures
    ∙ walk_at_least (value_in c.args.net.now c.args.bits.now) part.steps c.args.number _ _ (end_row part.signal c.args.t c.args.letter c.args.most).sum (neg_ℤ (pos c.args.most))
    (end_names part.steps part.signal c.args.t c.args.most c.args.letter ∙ lt-ltb (c.args.t + c.args.most) part.steps c.if-t-most.true)
    (omega (arith, ints, sum))

pub returns-else-t-most : goal.returns-else-t-most
returns-else-t-most c =
    let part = c.args.part.now in
    c.pass.ensures
    ∙ walk_past (value_in c.args.net.now c.args.bits.now) part.steps c.args.number (end_row part.signal c.args.t c.args.letter c.args.most)
    (end_names part.steps part.signal c.args.t c.args.most c.args.letter ∙ le-ltb (c.args.t + c.args.most) part.steps c.if-t-most.false)
