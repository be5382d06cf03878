use Rattle.traffic_model.proofs.PrefixLaws.{left_of-agree}
use Rattle.traffic_model.proofs.laws.delays.earlier_letters_decide_what_is_left.Goals as goal

pub returns : goal.returns
returns c = left_of-agree
