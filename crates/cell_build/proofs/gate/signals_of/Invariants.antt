-- The signals that were reached.
use Rattle.std.proofs.Common.{◌≡◌, map, take}
use Rattle.cell_build.specs.Built.{signal_built}
use Rattle.cell_build.proofs.gate.signals_of.Given as goal

abbrev pub invariant-loop-signal : goal.invariant-loop-signal
invariant-loop-signal l = l.built ≡ map signal_built (take l.signal-index l.signals)
