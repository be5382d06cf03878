use Rattle.std.proofs.Common.{◌≡◌}
use Rattle.listed.specs.Below.{table_of}
use Rattle.program_columns.specs.Columns.{arrived_before}
use Rattle.program_columns.proofs.columns.arrivals.none_arrived.Given as goal

abbrev pub invariant-loop-i : goal.invariant-loop-i
invariant-loop-i l = l.arrived ≡ table_of l.i (arrived_before l.net.cells 0)
