use Rattle.std.proofs.Common.{arith, inl}
use Rattle.cell_build.proofs.DemandLaws.{no_piece_no_demand}
use Rattle.cell_build.proofs.judge.demands.demand_of.Goals as goal

pub returns-in-empty : goal.returns-in-empty
returns-in-empty c = inl (no_piece_no_demand c.args.pieces.now c.args.steps c.args.k (omega arith))
