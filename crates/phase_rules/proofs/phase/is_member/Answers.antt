use Rattle.std.proofs.Common.{sym, ◌∙◌, le-ltb}
use Rattle.phase_rules.proofs.JudgeLaws.{no_bit_past_eight}
use Rattle.phase_rules.proofs.phase.is_member.Goals as goal

pub returns-else-phase-lt8 : goal.returns-else-phase-lt8
returns-else-phase-lt8 c =
    le-ltb c.args.phase 8 c.if-phase-lt8.false ∙ sym (no_bit_past_eight c.args.phases c.args.phase c.ranges.phases.fits c.if-phase-lt8.false)
