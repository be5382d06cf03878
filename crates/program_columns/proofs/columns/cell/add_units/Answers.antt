use Rattle.std.proofs.Common.{◌∙◌, ap, arith}
use Rattle.ct_base.specs.declared.cell.Cell.{Cell}
use Rattle.program_model.specs.Values.{most_units}
use Rattle.program_columns.proofs.CapLaws.{units_small}
use Rattle.program_columns.proofs.columns.cell.add_units.Goals as goal

pub add-requires-clause-small : goal.add-requires-clause-small
add-requires-clause-small c =
    omega (arith, c.most_units.ensures ∙ ap (λ (cell : Cell). most_units cell c.args.t) c.cell-cell.ensures.value, units_small c.args.net.now c.args.t c.args.i c.requires.valid c.requires.before c.requires.inside)
