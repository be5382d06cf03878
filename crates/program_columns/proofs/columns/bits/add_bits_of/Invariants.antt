use Rattle.std.proofs.Common.{◌≡◌, map}
use Rattle.listed.specs.Below.{join_below}
use Rattle.ct_base.specs.Access.{phase_of, signal_of}
use Rattle.program_columns.specs.Columns.{with_columns}
use Rattle.program_model.specs.Columns.{Bit, letters_by}
use Rattle.program_columns.proofs.columns.bits.add_bits_of.Given as goal

abbrev pub invariant-loop-p : goal.invariant-loop-p
invariant-loop-p l =
    l.builder ≡ with_columns l.net l.initial.builder (join_below l.p (λ p. map (Bit l.t l.s) (letters_by p (phase_of (signal_of l.net.signals l.s) p).clear)))
