use Rattle.traffic_model.proofs.PlansExist.{word_goes_on}
use Rattle.traffic_model.proofs.laws.plans.words_go_on.Goals as goal

pub returns : goal.returns
returns c = word_goes_on
