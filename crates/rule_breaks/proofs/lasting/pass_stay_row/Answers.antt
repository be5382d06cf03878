use Rattle.std.proofs.Common.{◌+◌, ◌∙◌, arith}
use Rattle.std.specs.Prelude.{pos}
use Rattle.std.proofs.lemmas.Int.{ints}
use Rattle.std.proofs.lemmas.Bool.{lt-ltb}
use Rattle.program_model.specs.RuleRows.{stay_row}
use Rattle.rule_breaks.specs.Breaks.{value_in}
use Rattle.rule_breaks.proofs.BitCounts.{stay_sum}
use Rattle.rule_breaks.proofs.NamedSteps.{stay_names}
use Rattle.rule_breaks.proofs.WalkLaws.{walk_at_least}
use Rattle.rule_breaks.proofs.lasting.pass_stay_row.Goals as goal

pub returns : goal.returns
returns c =
    let part = c.args.part.now in
    let sum = stay_sum c.args.net.now c.args.bits.now part.signal c.args.t c.args.k c.bit-later.result c.bit-now.result c.bit_before-earlier.result c.args.letter c.requires.part.values
    c.bit-later.ensures.value c.bit-now.ensures.value c.bit_before-earlier.ensures.value in
    c.judge_at_least.ensures
    ∙ walk_at_least (value_in c.args.net.now c.args.bits.now) part.steps c.args.number _ _ (stay_row part.signal c.args.t c.args.letter c.args.k).sum (pos 0)
    (stay_names part.steps part.signal c.args.t c.args.k c.args.letter c.requires.some ∙ lt-ltb (c.args.t + c.args.k) part.steps c.requires.before)
    (omega (arith, ints, sum))
