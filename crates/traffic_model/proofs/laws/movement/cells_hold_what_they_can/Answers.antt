use Rattle.traffic_model.proofs.HeldLaws.{AreHeld-occupancies}
use Rattle.traffic_model.proofs.laws.movement.cells_hold_what_they_can.Goals as goal

pub returns : goal.returns
returns c = AreHeld-occupancies
