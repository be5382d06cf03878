use Rattle.sparse_program.proofs.BuildLaws.{row_says}
use Rattle.sparse_program.proofs.laws.a_row_says_what_its_expression_says.Goals as goal

pub returns : goal.returns
returns c = row_says
