use Rattle.std.proofs.Common.{◌+◌, ◌∙◌, arith}
use Rattle.std.specs.Prelude.{pos}
use Rattle.std.proofs.lemmas.Int.{ints}
use Rattle.std.proofs.lemmas.Bool.{le-ltb, lt-ltb}
use Rattle.ct_base.specs.Access.{signal_of}
use Rattle.program_model.specs.RuleRows.{follow_row}
use Rattle.rule_breaks.specs.Breaks.{value_in}
use Rattle.rule_breaks.proofs.BitCounts.{follow_sum}
use Rattle.rule_breaks.proofs.NamedSteps.{follow_names}
use Rattle.rule_breaks.proofs.WalkLaws.{walk_at_least, walk_past}
use Rattle.rule_breaks.proofs.letters.pass_follow_row.Goals as goal

pub returns-then-t-part : goal.returns-then-t-part
returns-then-t-part c =
    let part = c.args.part.now in
    let signal = signal_of c.args.net.now.signals part.signal in
    let sum = follow_sum c.args.net.now c.args.bits.now signal part.signal c.args.t c.letters_on-followers.result c.bit-own.result c.args.letter c.requires.part.values
    c.letters_on-followers.ensures.value c.bit-own.ensures.value in
    c.judge_at_least.ensures
    ∙ walk_at_least (value_in c.args.net.now c.args.bits.now) part.steps c.args.number _ _ (follow_row signal part.signal c.args.t c.args.letter).sum (pos 0)
    (follow_names part.steps signal part.signal c.args.t c.args.letter c.requires.letter ∙ lt-ltb (c.args.t + 1) part.steps c.if-t-part.true)
    (omega (arith, ints, sum))

pub returns-else-t-part : goal.returns-else-t-part
returns-else-t-part c =
    let part = c.args.part.now in
    let signal = signal_of c.args.net.now.signals part.signal in
    c.pass.ensures
    ∙ walk_past (value_in c.args.net.now c.args.bits.now) part.steps c.args.number (follow_row signal part.signal c.args.t c.args.letter)
    (follow_names part.steps signal part.signal c.args.t c.args.letter c.requires.letter ∙ le-ltb (c.args.t + 1) part.steps c.if-t-part.false)
