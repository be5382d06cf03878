use Rattle.std.proofs.Common.{◌≡◌, map}
use Rattle.listed.specs.Below.{join_below}
use Rattle.ct_base.specs.Access.{signal_of}
use Rattle.program_columns.specs.Columns.{with_columns}
use Rattle.program_model.specs.Columns.{Bit, letters_of}
use Rattle.program_columns.proofs.columns.bits.add_bits_at.Given as goal

abbrev pub invariant-loop-s : goal.invariant-loop-s
invariant-loop-s l = l.builder ≡ with_columns l.net l.initial.builder (join_below l.s (λ s. map (Bit l.t s) (letters_of (signal_of l.net.signals s))))
