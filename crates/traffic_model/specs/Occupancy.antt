-- What the cells hold at each step (docs/traffic.md, "From step to step"). After Daganzo 1994.
use Rattle.std.specs.Prelude.{◌≡◌, ℕ, zero, suc, ◌+◌, ◌-◌, ◌<◌, ◌≤◌, List, length, slice_index}
use Rattle.ct_base.specs.Access.{cell_of}
use Rattle.listed.specs.Below.{sum_below, table_of}
use Rattle.ct_base.specs.declared.cell.Cell.{Cell}
use Rattle.ct_base.specs.declared.cell.Kind.{Kind}
use Rattle.ct_base.specs.declared.cell.Kind.TheVariants.{Queue, Road}
use Rattle.ct_base.specs.declared.plan.Letter.{Letter}
use Rattle.traffic_model.specs.Flow.{inflow, outflow}

-- the units that arrive at a cell at the end of a step
abbrev pub demand_at : Cell → ℕ → ℕ
demand_at cell t = slice_index cell.demand t

-- what the cells hold at step 0
unfoldable pub initial_units : List Cell → List ℕ
initial_units cells = table_of (length cells) (λ i. (cell_of cells i).initial)

-- what cell j holds after step t, from what the cells hold at step t
unfoldable pub next_of : List Cell → List Letter → ℕ → List ℕ → ℕ → ℕ
next_of cells letters t units j = (slice_index units j - outflow cells letters units j) + inflow cells letters units j + demand_at (cell_of cells j) t

-- what the cells hold after step t
unfoldable pub next_units : List Cell → List Letter → ℕ → List ℕ → List ℕ
next_units cells letters t units = table_of (length cells) (next_of cells letters t units)

-- what the cells hold at a step, where letters t are those of step t, one per signal
unfoldable pub occupancies : List Cell → (ℕ → List Letter) → ℕ → List ℕ
occupancies cells letters zero = initial_units cells
occupancies cells letters (suc t) = next_units cells (letters t) t (occupancies cells letters t)

-- the most that a cell can hold at step t: a road cell its storage, a queue all that has arrived
abbrev pub most_held : Kind → Cell → ℕ → ℕ
most_held Road cell t = cell.store
most_held Queue cell t = sum_below t (demand_at cell)

-- the units are numbers that the cells can hold at step t
pub record AreHeld (cells : List Cell) (t : ℕ) (units : List ℕ) : Type 0 where
  pub one_per_cell : length units ≡ length cells
  pub each : (i : ℕ) → i < length cells → slice_index units i ≤ most_held (cell_of cells i).kind (cell_of cells i) t
