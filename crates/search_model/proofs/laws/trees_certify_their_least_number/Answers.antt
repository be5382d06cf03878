use Rattle.search_model.proofs.NumberLaws.{least_number_is_certified}
use Rattle.search_model.proofs.laws.trees_certify_their_least_number.Goals as goal

pub returns : goal.returns
returns c = least_number_is_certified
