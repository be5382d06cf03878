use Rattle.std.proofs.Common.{◌∙◌, arith}
use Rattle.std.proofs.lemmas.Bool.{le-ltb, lt-ltb}
use Rattle.ct_base.specs.Access.{no_signal, signal_of}
use Rattle.program_model.specs.RuleRows.{one_letter_row}
use Rattle.rule_breaks.specs.Breaks.{value_in}
use Rattle.rule_breaks.proofs.BitCounts.{one_letter_sum}
use Rattle.rule_breaks.proofs.NamedSteps.{one_letter_names}
use Rattle.rule_breaks.proofs.WalkLaws.{walk_equal, walk_past}
use Rattle.rule_breaks.proofs.letters.pass_one_letter_row.Goals as goal

pub returns-then-t-part : goal.returns-then-t-part
returns-then-t-part c =
    let part = c.args.part.now in
    let signal = signal_of c.args.net.now.signals part.signal in
    let phases = (c.requires.part.values.valid.each_signal part.signal no_signal c.requires.part.inside).phases.0 in
    c.judge_equal.ensures
    ∙ walk_equal (value_in c.args.net.now c.args.bits.now) part.steps c.args.number c.letters_on-shown.result 1 (one_letter_row signal part.signal c.args.t).sum
    (one_letter_names part.steps signal part.signal c.args.t (omega (arith, phases)) ∙ lt-ltb c.args.t part.steps c.if-t-part.true)
    (one_letter_sum c.args.net.now c.args.bits.now signal part.signal c.args.t c.letters_on-shown.result c.requires.part.values c.letters_on-shown.ensures.value)

pub returns-else-t-part : goal.returns-else-t-part
returns-else-t-part c =
    let part = c.args.part.now in
    let signal = signal_of c.args.net.now.signals part.signal in
    let phases = (c.requires.part.values.valid.each_signal part.signal no_signal c.requires.part.inside).phases.0 in
    c.pass.ensures
    ∙ walk_past (value_in c.args.net.now c.args.bits.now) part.steps c.args.number (one_letter_row signal part.signal c.args.t)
    (one_letter_names part.steps signal part.signal c.args.t (omega (arith, phases)) ∙ le-ltb c.args.t part.steps c.if-t-part.false)
