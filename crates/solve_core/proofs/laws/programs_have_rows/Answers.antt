use Rattle.solve_core.proofs.RowLaws.{five_rows}
use Rattle.solve_core.proofs.laws.programs_have_rows.Goals as goal

pub returns : goal.returns
returns c = five_rows
