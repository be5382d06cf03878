use Rattle.traffic_model.proofs.ConservationLaws.{occupancies-conserve}
use Rattle.traffic_model.proofs.laws.conservation.units_are_conserved_over_a_run.Goals as goal

pub returns : goal.returns
returns c = occupancies-conserve
