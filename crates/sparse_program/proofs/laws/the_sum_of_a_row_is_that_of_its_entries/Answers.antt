use Rattle.sparse_program.proofs.MatrixLaws.{row_sum}
use Rattle.sparse_program.proofs.laws.the_sum_of_a_row_is_that_of_its_entries.Goals as goal

pub returns : goal.returns
returns c = row_sum
