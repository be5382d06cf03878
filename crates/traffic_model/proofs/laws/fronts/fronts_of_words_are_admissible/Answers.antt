use Rattle.traffic_model.proofs.FrontLaws.{take-admissible}
use Rattle.traffic_model.proofs.laws.fronts.fronts_of_words_are_admissible.Goals as goal

pub returns : goal.returns
returns c = take-admissible
