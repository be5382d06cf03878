use Rattle.std.proofs.Common.{◌∙◌, ap, sym, length}
use Rattle.ct_base.specs.declared.cell.Out.TheVariants.{Turns}
use Rattle.program_columns.proofs.CapLaws.{branches_lead}
use Rattle.program_columns.proofs.columns.diverge.add_diverge.Goals as goal

pub add_branches-requires-clause-there : goal.add_branches-requires-clause-there
add_branches-requires-clause-there c =
    branches_lead (length c.args.net.now.cells) c.cell.result.now.out c.as_slice.result.now (c.in-Turns.is ∙ ap Turns (sym c.as_slice.ensures)) (λ k d inside. (c.cell.ensures.valid.targets k d inside).within)
