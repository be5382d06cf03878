use Rattle.search_model.proofs.NumberLaws.{good_for_less}
use Rattle.search_model.proofs.laws.lawful_leaves_are_good_for_less.Goals as goal

pub returns : goal.returns
returns c = good_for_less
