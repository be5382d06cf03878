use Rattle.traffic_model.proofs.InflowLaws.{inflow_fits}
use Rattle.traffic_model.proofs.laws.movement.inflow_fits_into_the_room.Goals as goal

pub returns : goal.returns
returns c = inflow_fits
