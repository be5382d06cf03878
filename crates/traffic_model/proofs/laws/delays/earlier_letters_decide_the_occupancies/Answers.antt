use Rattle.traffic_model.proofs.PrefixLaws.{occupancies-agree}
use Rattle.traffic_model.proofs.laws.delays.earlier_letters_decide_the_occupancies.Goals as goal

pub returns : goal.returns
returns c = occupancies-agree
