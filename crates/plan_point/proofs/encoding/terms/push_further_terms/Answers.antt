use Rattle.std.proofs.Common.{ap, ◌∙◌, sym}
use Rattle.ct_base.specs.declared.cell.Out.TheVariants.{Turns}
use Rattle.cell_replay.proofs.Flows.{lead_to_roads}
use Rattle.plan_point.proofs.encoding.terms.push_further_terms.Goals as goal

pub push_branch_terms-requires-clause-roads : goal.push_branch_terms-requires-clause-roads
push_branch_terms-requires-clause-roads c =
    lead_to_roads c.args.cells.now c.as_slice-turns.result.now c.args.out.now (c.in-Turns.is ∙ ap Turns (sym c.as_slice-turns.ensures)) c.requires.targets
