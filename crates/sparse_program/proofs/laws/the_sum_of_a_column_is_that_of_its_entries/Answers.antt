use Rattle.sparse_program.proofs.MatrixLaws.{column_sum}
use Rattle.sparse_program.proofs.laws.the_sum_of_a_column_is_that_of_its_entries.Goals as goal

pub returns : goal.returns
returns c = column_sum
