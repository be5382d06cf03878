-- What one step does to the cells, from what leaves each of them.
use Rattle.std.specs.Prelude.{◌≡◌, ℕ, ◌+◌, ◌-◌, ◌*◌, ◌/◌, ◌<◌, ◌≤◌, min, List, [], length, fold, All, IfSome, slice_index}
use Rattle.ct_base.specs.Access.{cell_of, parcel}
use Rattle.listed.specs.Below.{sum_below}
use Rattle.ct_base.specs.declared.cell.Cell.{Cell}
use Rattle.ct_base.specs.declared.cell.Kind.{Kind}
use Rattle.ct_base.specs.declared.cell.Kind.TheVariants.{Queue, Road}
use Rattle.ct_base.specs.declared.cell.Out.{Out}
use Rattle.ct_base.specs.declared.cell.Out.TheVariants.{Exit, To, Turns}
use Rattle.traffic_model.specs.Flow.{receiving, share, units_of_flow}
use Rattle.traffic_model.specs.Occupancy.{demand_at}
use Rattle.cell_replay.specs.declared.lines.Line.{Line}
use Rattle.cell_replay.specs.Asked.{LeadsOn}

-- a queue has its demand for a step, and a road cell has none
abbrev pub HasDemand : Kind → ℕ → Cell → Type 0
HasDemand Queue t cell = (t < length cell.demand) × All (λ units. units ≤ 1000) cell.demand
HasDemand Road t cell = cell.demand ≡ []

-- each cell leads on
abbrev pub LeadOn : List Cell → Type 0
LeadOn cells = (i : ℕ) → i < length cells → LeadsOn cells (cell_of cells i)

-- each queue has its demand for a step, and no road cell has any
abbrev pub HaveDemand : List Cell → ℕ → Type 0
HaveDemand cells t = (i : ℕ) → i < length cells → HasDemand (cell_of cells i).kind t (cell_of cells i)

-- each gate names one of so many signals
abbrev pub AskSignals : List Cell → ℕ → Type 0
AskSignals cells signals = (i : ℕ) → i < length cells → IfSome (cell_of cells i).gate (λ gate. gate.signal < signals)

-- the units that may enter a road cell in a step
abbrev pub may_enter : List Cell → List ℕ → ℕ → ℕ
may_enter cells units k = min (cell_of cells k).cap (receiving (cell_of cells k) (slice_index units k))

-- the least of a number and of the parcels that the branches take
abbrev pub parcels_up_to : List Cell → List ℕ → List (ℕ × ℕ) → ℕ → ℕ
parcels_up_to cells units branches most = fold (λ parcels branch. min parcels (may_enter cells units branch.0 / branch.1)) most branches

-- the units that leave an open cell by its out, where at most so many may leave and are held
abbrev pub sent_by : List Cell → List ℕ → ℕ → Out → ℕ
sent_by cells units most Exit = most
sent_by cells units most (To b) = min most (may_enter cells units b)
sent_by cells units most (Turns branches) = parcel branches * parcels_up_to cells units branches (most / parcel branches)

-- the units of an outflow that enter cell j
abbrev pub passed : Out → ℕ → ℕ → ℕ
passed out units j = share out j * (units / units_of_flow out)

-- the units that enter cell j from the first k cells
abbrev pub entered : List Cell → List ℕ → ℕ → ℕ → ℕ
entered cells outflows k j = sum_below k (λ i. passed (cell_of cells i).out (slice_index outflows i) j)

-- what cell j holds after step t
abbrev pub held_after : List Cell → ℕ → List ℕ → List ℕ → ℕ → ℕ
held_after cells t units outflows j =
    (slice_index units j - slice_index outflows j) + entered cells outflows (length cells) j + demand_at (cell_of cells j) t

-- the line of cell i in step t, from what each cell holds as the step begins and what leaves each in it
abbrev pub line_of : ℕ → List ℕ → List ℕ → ℕ → Line
line_of t units outflows i =
    record { step = t; cell = i; units = slice_index units i; out = slice_index outflows i; delay = slice_index units i - slice_index outflows i }
