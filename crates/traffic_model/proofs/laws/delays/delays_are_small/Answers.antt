use Rattle.traffic_model.proofs.DelayLaws.{delay_of-lt}
use Rattle.traffic_model.proofs.laws.delays.delays_are_small.Goals as goal

pub returns : goal.returns
returns c = delay_of-lt
