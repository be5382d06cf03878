use Rattle.sparse_program.proofs.TermLaws.{terms_sum-inserted}
use Rattle.sparse_program.proofs.laws.an_inserted_term_adds_its_value.Goals as goal

pub returns : goal.returns
returns c = terms_sum-inserted
