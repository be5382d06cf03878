-- Delay, and the units that are left at the end (docs/traffic.md, "Delay"). This project's own sum.
use Rattle.std.specs.Prelude.{ℕ, ◌-◌, List, length, map, sum, slice_index, slice_index_or}
use Rattle.listed.specs.Below.{sum_below}
use Rattle.ct_base.specs.declared.cell.Cell.{Cell}
use Rattle.ct_base.specs.declared.plan.Letter.{Letter}
use Rattle.ct_base.specs.declared.plan.Letter.TheVariants.{Clear}
use Rattle.traffic_model.specs.Flow.{outflow}
use Rattle.traffic_model.specs.Occupancy.{occupancies}

-- the delay of a cell in one step: the units that do not leave it
abbrev pub cell_delay : List Cell → List Letter → List ℕ → ℕ → ℕ
cell_delay cells letters units i = slice_index units i - outflow cells letters units i

-- the delay of one step: that of all cells
unfoldable pub step_delay : List Cell → List Letter → List ℕ → ℕ
step_delay cells letters units = sum_below (length cells) (λ i. cell_delay cells letters units i)

-- the delay of the first k steps, in units times steps
unfoldable pub delay_of : List Cell → (ℕ → List Letter) → ℕ → ℕ
delay_of cells letters k = sum_below k (λ t. step_delay cells (letters t) (occupancies cells letters t))

-- the units in all cells after k steps
unfoldable pub left_of : List Cell → (ℕ → List Letter) → ℕ → ℕ
left_of cells letters k = sum (occupancies cells letters k)

-- the letters of step t of a plan, one per signal
unfoldable pub letters_at : List (List Letter) → ℕ → List Letter
letters_at words t = map (λ (word : List Letter). slice_index_or word t (Clear 0)) words
