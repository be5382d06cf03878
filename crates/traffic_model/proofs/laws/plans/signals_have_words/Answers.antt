use Rattle.traffic_model.proofs.PlansExist.{word_exists}
use Rattle.traffic_model.proofs.laws.plans.signals_have_words.Goals as goal

pub returns : goal.returns
returns c = word_exists
