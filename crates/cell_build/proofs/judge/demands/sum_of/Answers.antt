use Rattle.cell_build.proofs.DemandLaws.{demand_given, demand_refused}
use Rattle.cell_build.proofs.judge.demands.sum_of.Goals as goal

pub returns-in-Ok : goal.returns-in-Ok
returns-in-Ok c = demand_given c.args.k c.args.pieces.now c.args.steps c.in-Ok.demand c.in-Ok.ensures

pub returns-in-Err : goal.returns-in-Err
returns-in-Err c = rw c.fault_of.ensures (demand_refused c.args.k c.args.pieces.now c.args.steps c.in-Err.fault c.in-Err.ensures)
