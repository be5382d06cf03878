use Rattle.traffic_model.proofs.HeldLaws.{AreHeld-next_units}
use Rattle.traffic_model.proofs.laws.movement.cells_hold_what_they_can_over_a_step.Goals as goal

pub returns : goal.returns
returns c = AreHeld-next_units
