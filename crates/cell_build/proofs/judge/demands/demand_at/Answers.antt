use Rattle.cell_build.proofs.judge.demands.demand_at.Goals as goal

pub returns : goal.returns
returns c = rw (← c.as_slice.ensures) c.demand_of.ensures
