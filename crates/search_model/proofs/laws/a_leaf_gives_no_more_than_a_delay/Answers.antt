use Rattle.search_model.proofs.NumberLaws.{number_below_delay}
use Rattle.search_model.proofs.laws.a_leaf_gives_no_more_than_a_delay.Goals as goal

pub returns : goal.returns
returns c = number_below_delay
