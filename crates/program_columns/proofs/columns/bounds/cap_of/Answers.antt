use Rattle.std.proofs.Common.{◌∙◌, ap, sym, length}
use Rattle.ct_base.specs.declared.cell.Out.TheVariants.{Turns}
use Rattle.program_columns.proofs.CapLaws.{branches_lead, cap_of-split}
use Rattle.program_columns.proofs.columns.bounds.cap_of.Goals as goal

pub cap_of_split-requires-clause-there : goal.cap_of_split-requires-clause-there
cap_of_split-requires-clause-there c =
    branches_lead (length c.args.cells.now) c.args.cell.now.out c.as_slice.result.now (c.in-Turns.is ∙ ap Turns (sym c.as_slice.ensures)) c.requires.targets

pub returns-in-Turns-clause-value : goal.returns-in-Turns-clause-value
returns-in-Turns-clause-value c =
    c.cap_of_split.ensures.value ∙ cap_of-split c.args.cells.now c.args.cell.now c.args.cell.now.out c.as_slice.result.now (c.in-Turns.is ∙ ap Turns (sym c.as_slice.ensures))
