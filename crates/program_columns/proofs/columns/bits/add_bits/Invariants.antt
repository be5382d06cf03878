use Rattle.std.proofs.Common.{◌≡◌}
use Rattle.listed.specs.Below.{join_below}
use Rattle.program_columns.specs.Columns.{with_columns}
use Rattle.program_model.specs.Columns.{bits_at}
use Rattle.program_columns.proofs.columns.bits.add_bits.Given as goal

abbrev pub invariant-loop-t : goal.invariant-loop-t
invariant-loop-t l = l.builder ≡ with_columns l.net l.initial.builder (join_below l.t (bits_at l.net.signals))
