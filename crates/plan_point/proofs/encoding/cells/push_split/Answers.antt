use Rattle.std.proofs.Common.{ap, ◌∙◌, sym}
use Rattle.ct_base.specs.declared.cell.Out.TheVariants.{Turns}
use Rattle.cell_replay.proofs.Flows.{lead_to_roads}
use Rattle.plan_point.proofs.encoding.cells.push_split.Goals as goal

pub push_branches-requires-clause-roads : goal.push_branches-requires-clause-roads
push_branches-requires-clause-roads c =
    lead_to_roads c.args.cells.now c.as_slice-turns.result.now c.args.out.now (c.in-Turns.is ∙ ap Turns (sym c.as_slice-turns.ensures)) c.requires.targets
