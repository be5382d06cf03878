use Rattle.traffic_model.proofs.FrontLaws.{delay_of-front}
use Rattle.traffic_model.proofs.laws.fronts.fronts_have_no_more_delay.Goals as goal

pub returns : goal.returns
returns c = delay_of-front
