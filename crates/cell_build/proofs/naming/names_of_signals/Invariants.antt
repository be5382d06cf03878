-- The names of the signals that were reached.
use Rattle.std.proofs.Common.{◌≡◌, map}
use Rattle.cell_build.specs.Naming.{names_of_signal}
use Rattle.cell_build.proofs.naming.names_of_signals.Given as goal

abbrev pub invariant-loop-signal : goal.invariant-loop-signal
invariant-loop-signal l = l.names ≡ map names_of_signal l.yielded
