-- Where a replay stands: what contracts see of it.
use Rattle.std.specs.Prelude.{◌≡◌, ℕ, ◌+◌, ◌≤◌, List, length, replicate}
use Rattle.listed.specs.Below.{table_of}
use Rattle.ct_base.specs.declared.cell.Cell.{Cell}
use Rattle.ct_base.specs.declared.net.Net.{Net}
use Rattle.ct_base.specs.declared.plan.Letter.{Letter}
use Rattle.traffic_model.specs.Flow.{outflow}
use Rattle.traffic_model.specs.Occupancy.{AreHeld, initial_units, next_units}

-- the step at which a replay stands, what each cell holds there, and what left each cell in the step before
pub record Standing : Type 0 where
  pub step : ℕ
  pub units : List ℕ
  pub outflows : List ℕ

-- at step 0 nothing has left
abbrev pub at_start : List Cell → Standing
at_start cells = record { step = 0; units = initial_units cells; outflows = replicate (length cells) 0 }

-- one step later, under the letters of the step
abbrev pub one_step_on : List Cell → List Letter → Standing → Standing
one_step_on cells letters at =
    record { step = at.step + 1; units = next_units cells letters at.step at.units; outflows = table_of (length cells) (outflow cells letters at.units) }

-- the replay is one of this network
pub record IsReplayOf (net : Net) (at : Standing) : Type 0 where
  pub in_time : at.step ≤ net.steps
  pub held : AreHeld net.cells at.step at.units
  pub outflows : length at.outflows ≡ length net.cells
