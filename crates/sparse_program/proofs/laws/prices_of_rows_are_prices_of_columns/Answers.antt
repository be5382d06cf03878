use Rattle.sparse_program.proofs.MatrixLaws.{one_sum}
use Rattle.sparse_program.proofs.laws.prices_of_rows_are_prices_of_columns.Goals as goal

pub returns : goal.returns
returns c = one_sum
