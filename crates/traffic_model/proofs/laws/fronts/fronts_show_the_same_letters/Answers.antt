use Rattle.traffic_model.proofs.FrontLaws.{letters_at-front}
use Rattle.traffic_model.proofs.laws.fronts.fronts_show_the_same_letters.Goals as goal

pub returns : goal.returns
returns c = letters_at-front
