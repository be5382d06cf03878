use Rattle.std.proofs.Common.{◌≡◌}
use Rattle.listed.specs.Below.{table_of}
use Rattle.program_columns.specs.Columns.{with_columns}
use Rattle.program_model.specs.Columns.{Switch}
use Rattle.program_columns.proofs.columns.cell.add_switches.Given as goal

abbrev pub invariant-loop-m : goal.invariant-loop-m
invariant-loop-m l = l.builder ≡ with_columns l.net l.initial.builder (table_of l._m (Switch l.t l.i))
