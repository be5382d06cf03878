use Rattle.sparse_program.proofs.TermLaws.{coefficient-contains}
use Rattle.sparse_program.proofs.laws.a_term_is_the_coefficient_at_its_number.Goals as goal

pub returns : goal.returns
returns c = coefficient-contains
