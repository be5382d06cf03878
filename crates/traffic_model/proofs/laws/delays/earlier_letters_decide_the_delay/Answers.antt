use Rattle.traffic_model.proofs.PrefixLaws.{delay_of-agree}
use Rattle.traffic_model.proofs.laws.delays.earlier_letters_decide_the_delay.Goals as goal

pub returns : goal.returns
returns c = delay_of-agree
