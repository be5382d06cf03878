use Rattle.std.proofs.Common.{◌≡◌, ◌/◌, length, ap, arith}
use Rattle.program_model.specs.Numbers.{bits_of_step}
use Rattle.plan_bits.proofs.PartLaws.{cut_signal, cut_step, length-part_of_step, signal_within, width_is}
use Rattle.plan_bits.proofs.word.bits_of_signal.Goals as goal

pub part-requires : goal.part-requires
part-requires c =
    let net = c.args.net.now in
    let width : length c.args.bits.now / net.steps ≡ bits_of_step net.signals = width_is net (length c.args.bits.now) c.requires.valid.steps.0 c.requires.columns in
    let step = cut_step net c.args.bits.now c.part-of_step.result.now c.args.step (length c.args.bits.now / net.steps) width c.part-of_step.ensures in
    omega (
      arith,
      signal_within net c.args.number c.requires.inside,
      c.requires.first,
      c.requires.count,
      ap length step,
      length-part_of_step net c.args.bits.now c.args.step c.requires.columns c.requires.step,
    )

pub returns : goal.returns
returns c =
    let net = c.args.net.now in
    let width : length c.args.bits.now / net.steps ≡ bits_of_step net.signals = width_is net (length c.args.bits.now) c.requires.valid.steps.0 c.requires.columns in
    let step = cut_step net c.args.bits.now c.part-of_step.result.now c.args.step (length c.args.bits.now / net.steps) width c.part-of_step.ensures in
    cut_signal net c.args.bits.now c.part-of_step.result.now c.part.result.now c.args.number c.args.step c.args.count c.args.first c.requires.count c.requires.first step c.part.ensures
