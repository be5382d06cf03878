-- What enters and leaves the network as a whole in a step.
use Rattle.std.specs.Prelude.{ℕ, List, length}
use Rattle.ct_base.specs.Access.{cell_of}
use Rattle.listed.specs.Below.{sum_below}
use Rattle.ct_base.specs.declared.cell.Cell.{Cell}
use Rattle.ct_base.specs.declared.cell.Out.{Out}
use Rattle.ct_base.specs.declared.cell.Out.TheVariants.{Exit, To, Turns}
use Rattle.ct_base.specs.declared.plan.Letter.{Letter}
use Rattle.traffic_model.specs.Flow.{outflow}
use Rattle.traffic_model.specs.Occupancy.{demand_at}

-- the part of an outflow that leaves the network
abbrev pub by_exit : Out → ℕ → ℕ
by_exit Exit units = units
by_exit (To b) units = 0
by_exit (Turns branches) units = 0

-- the units that leave the network in a step
unfoldable pub leaving : List Cell → List Letter → List ℕ → ℕ
leaving cells letters units = sum_below (length cells) (λ i. by_exit (cell_of cells i).out (outflow cells letters units i))

-- the units that arrive in all queues at the end of a step
unfoldable pub arriving : List Cell → ℕ → ℕ
arriving cells t = sum_below (length cells) (λ i. demand_at (cell_of cells i) t)
