use Rattle.std.proofs.Common.{◌≡◌}
use Rattle.program_model.specs.Numbers.{letters_before}
use Rattle.program_layout.proofs.layout.making.bits_of_signal.Given as goal

abbrev pub invariant-loop-p : goal.invariant-loop-p
invariant-loop-p l = l.bits ≡ letters_before l.signal l.p
