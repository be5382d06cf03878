use Rattle.traffic_model.proofs.ConservationLaws.{next_units-conserve}
use Rattle.traffic_model.proofs.laws.conservation.units_are_conserved_over_a_step.Goals as goal

pub returns : goal.returns
returns c = next_units-conserve
