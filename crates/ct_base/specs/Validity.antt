-- When a network is valid (docs/traffic.md, "A valid network").
use Rattle.std.specs.Prelude.{◌≡◌, ◌≢◌, ℕ, ◌<◌, ◌≤◌, ◌^◌, List, [], length, Option, Some, None, IfSome, All, AllPairs, EachIndex, Contains, bit_and}
use Rattle.std.specs.Int.{bit_at}
use Rattle.limits.specs.declared.TheConstants.{MAX_BRANCHES, MAX_CAPACITY, MAX_CELLS, MAX_CLEAR, MAX_DEMAND, MAX_GREEN, MAX_PARCEL, MAX_PHASES, MAX_SIGNALS, MAX_STEPS, MAX_STORAGE, MAX_WAVE, MIN_BRANCHES, MIN_PHASES}
use Rattle.ct_base.specs.Access.{cell_of, signal_of, phase_of, targets}
use Rattle.ct_base.specs.declared.net.Net.{Net}
use Rattle.ct_base.specs.declared.cell.Cell.{Cell}
use Rattle.ct_base.specs.declared.cell.Kind.{Kind}
use Rattle.ct_base.specs.declared.cell.Kind.TheVariants.{Queue, Road}
use Rattle.ct_base.specs.declared.cell.Gate.{Gate}
use Rattle.ct_base.specs.declared.cell.Out.{Out}
use Rattle.ct_base.specs.declared.cell.Out.TheVariants.{Exit, To, Turns}
use Rattle.ct_base.specs.declared.signal.Signal.{Signal}
use Rattle.ct_base.specs.declared.signal.Phase.{Phase}

-- the number lies between two others
abbrev pub IsBetween : ℕ → ℕ → ℕ → Type 0
IsBetween low high n = (low ≤ n) × (n ≤ high)

-- a phase: its limits, and that a phase other than itself may follow
pub record IsPhase (phases p : ℕ) (phase : Phase) : Type 0 where
  pub min : IsBetween 1 MAX_GREEN phase.min
  pub max : IsBetween phase.min MAX_GREEN phase.max
  pub clear : phase.clear ≤ MAX_CLEAR
  pub followed : 1 ≤ phase.next
  pub followed_by_phases : phase.next < 2 ^ phases
  pub not_by_itself : bit_at phase.next p ≡ 0

-- a signal has 2 to 8 phases that are valid, and starts with one of them
pub record IsSignal (signal : Signal) : Type 0 where
  pub phases : IsBetween MIN_PHASES MAX_PHASES (length signal.phases)
  pub start : signal.start < length signal.phases
  pub each : EachIndex signal.phases (λ p. IsPhase (length signal.phases) p (phase_of signal p))

-- a gate names a signal, and some of its phases and no others
pub record IsGate (signals : List Signal) (gate : Gate) : Type 0 where
  pub signal : gate.signal < length signals
  pub opens : 1 ≤ gate.greens
  pub phases : gate.greens < 2 ^ length (signal_of signals gate.signal).phases

-- a queue: no limit of storage, nothing at the start, one number of units for each step, and one way on
pub record IsQueue (steps : ℕ) (cell : Cell) : Type 0 where
  pub store : cell.store ≡ 0
  pub wave_p : cell.wave_p ≡ 1
  pub wave_q : cell.wave_q ≡ 1
  pub gate : cell.gate ≡ None
  pub initial : cell.initial ≡ 0
  pub out : (b : ℕ) × (cell.out ≡ To b)
  pub demand : length cell.demand ≡ steps
  pub demand_in_range : All (λ units. units ≤ MAX_DEMAND) cell.demand

-- a road cell has a storage, a wave ratio and units at the start within their limits, and no demand
pub record IsRoad (cell : Cell) : Type 0 where
  pub store : IsBetween 1 MAX_STORAGE cell.store
  pub wave_p : IsBetween 1 cell.wave_q cell.wave_p
  pub wave_q : cell.wave_q ≤ MAX_WAVE
  pub initial : cell.initial ≤ cell.store
  pub demand : cell.demand ≡ []

-- a cell is as its kind asks
abbrev pub IsOfKind : Kind → ℕ → Cell → Type 0
IsOfKind Queue steps cell = IsQueue steps cell
IsOfKind Road steps cell = IsRoad cell

-- a move may lead from cell i into cell k: a road cell, and another
pub record IsTarget (cells : List Cell) (i k : ℕ) : Type 0 where
  pub within : k < length cells
  pub road : (cell_of cells k).kind ≡ Road
  pub other : k ≢ i

-- a diverge has 2 to 4 branches into different cells, each with 1 to 100 units of a parcel
abbrev pub IsSplit : Out → Type 0
IsSplit Exit = Unit {0}
IsSplit (To b) = Unit {0}
IsSplit (Turns branches) =
    IsBetween MIN_BRANCHES MAX_BRANCHES (length branches) × AllPairs (λ k m. k ≢ m) (targets (Turns branches)) × All (λ (branch : ℕ × ℕ). IsBetween 1 MAX_PARCEL branch.1) branches

-- cell i of a network
pub record IsCell (net : Net) (i : ℕ) (cell : Cell) : Type 0 where
  pub cap : IsBetween 1 MAX_CAPACITY cell.cap
  pub kind : IsOfKind cell.kind net.steps cell
  pub gate : IfSome cell.gate (IsGate net.signals)
  pub targets : All (IsTarget net.cells i) (targets cell.out)
  pub split : IsSplit cell.out

-- no letter of a signal opens both gates
abbrev pub AreApart : Option Gate → Option Gate → Type 0
AreApart (Some g) (Some h) = (g.signal ≡ h.signal) × (bit_and g.greens h.greens ≡ 0)
AreApart (Some g) None = ⊥
AreApart None h = ⊥

-- the moves out of cells i and k, where they lead into one cell, are separated by one signal
abbrev pub AreSeparated : List Cell → ℕ → ℕ → Type 0
AreSeparated cells i k =
    (j : ℕ) → Contains (targets (cell_of cells i).out) j → Contains (targets (cell_of cells k).out) j → AreApart (cell_of cells i).gate (cell_of cells k).gate

-- a network within the limits whose every part obeys its rules
pub record IsValid (net : Net) : Type 0 where
  pub steps : IsBetween 1 MAX_STEPS net.steps
  pub cells : IsBetween 1 MAX_CELLS (length net.cells)
  pub signals : length net.signals ≤ MAX_SIGNALS
  pub each_signal : All IsSignal net.signals
  pub each_cell : EachIndex net.cells (λ i. IsCell net i (cell_of net.cells i))
  pub merges : EachIndex net.cells (λ i. EachIndex net.cells (λ k. i ≢ k → AreSeparated net.cells i k))
