use Rattle.sparse_program.proofs.MatrixLaws.{one_matrix}
use Rattle.sparse_program.proofs.laws.rows_and_columns_are_one_matrix.Goals as goal

pub returns : goal.returns
returns c = one_matrix
