use Rattle.search_model.proofs.BitLaws.{root_has_bits}
use Rattle.search_model.proofs.laws.plan_columns_are_bits.Goals as goal

pub returns : goal.returns
returns c = root_has_bits
