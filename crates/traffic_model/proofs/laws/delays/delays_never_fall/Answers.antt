use Rattle.traffic_model.proofs.PrefixLaws.{delay_of-grows}
use Rattle.traffic_model.proofs.laws.delays.delays_never_fall.Goals as goal

pub returns : goal.returns
returns c = delay_of-grows
