-- The network of cells that the links and signals of a file become, or why there is none.
use Rattle.std.specs.Prelude.{ℕ, List, length, map, Option, Some, None, Result}
use Rattle.refusals.specs.Faults.{unless}
use Rattle.ct_base.specs.declared.signal.Signal.{Signal}
use Rattle.ct_base.specs.declared.signal.Phase.{Phase}
use Rattle.network_file.specs.declared.raw.RawNet.{RawNet}
use Rattle.network_file.specs.declared.raw.RawSignal.{RawSignal}
use Rattle.network_file.specs.declared.raw.RawPhase.{RawPhase}
use Rattle.cell_build.specs.Link.{cells_of_links}
use Rattle.cell_build.specs.Names.{number_of, phase_names, set_of}
use Rattle.named_net.specs.Naming.{Named}
use Rattle.cell_build.specs.Naming.{names_of}
use Rattle.cell_build.specs.Refusals.{faults_of}
use Rattle.cell_build.specs.declared.fault.BuildFault.{BuildFault}

-- a signal of the file with its names as numbers; without `start` it starts with the first phase
abbrev pub start_among : List (List ℕ) → Option (List ℕ) → ℕ
start_among names None = 0
start_among names (Some name) = number_of names name

-- a phase of a signal whose phases have these names
abbrev pub phase_built : List (List ℕ) → RawPhase → Phase
phase_built names phase = record { min = phase.min; max = phase.max; clear = phase.clear; next = set_of names phase.next }

-- a signal, with its phases by number
abbrev pub signal_built : RawSignal → Signal
signal_built signal = record { start = start_among (phase_names signal) signal.start; phases = map (phase_built (phase_names signal)) signal.phases }

-- the network that the file's links and signals become
unfoldable pub named_of : RawNet → Named
named_of raw =
    record {
      net = record { steps = raw.steps; cells = cells_of_links raw.steps raw.signals raw.links (length raw.links); signals = map signal_built raw.signals };
      names = names_of raw;
    }

-- the network, or the first of the faults
unfoldable pub built : RawNet → Result Named BuildFault
built raw = unless (faults_of raw) (named_of raw)
