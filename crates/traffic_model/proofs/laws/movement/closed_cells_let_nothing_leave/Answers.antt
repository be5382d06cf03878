use Rattle.traffic_model.proofs.FlowLaws.{outflow-closed}
use Rattle.traffic_model.proofs.laws.movement.closed_cells_let_nothing_leave.Goals as goal

pub returns : goal.returns
returns c = outflow-closed
