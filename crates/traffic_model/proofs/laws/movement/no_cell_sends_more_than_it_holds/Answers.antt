use Rattle.traffic_model.proofs.FlowLaws.{outflow-le}
use Rattle.traffic_model.proofs.laws.movement.no_cell_sends_more_than_it_holds.Goals as goal

pub returns : goal.returns
returns c = outflow-le
