use Rattle.std.proofs.Common.{sym, ◌∙◌, le-ltb}
use Rattle.cell_replay.proofs.Flows.{no_bit_past_eight}
use Rattle.lo_program.proofs.flows.moves.has_phase.Goals as goal

pub returns-else-p-lt8 : goal.returns-else-p-lt8
returns-else-p-lt8 c =
    le-ltb c.args.p 8 c.if-p-lt8.false ∙ sym (no_bit_past_eight c.args.phases c.args.p c.ranges.phases.fits c.if-p-lt8.false)
