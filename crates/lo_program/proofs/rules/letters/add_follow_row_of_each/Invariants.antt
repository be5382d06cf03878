use Rattle.std.proofs.Common.{take, map}
use Rattle.ct_base.specs.Access.{signal_of}
use Rattle.program_model.specs.RuleRows.{follow_row}
use Rattle.lo_program.specs.inner.Adding.{Adds}
use Rattle.lo_program.proofs.rules.letters.add_follow_row_of_each.Given as goal

abbrev pub invariant-loop-letter : goal.invariant-loop-letter
invariant-loop-letter l = Adds l.net l.fn.builder l.builder (map (follow_row (signal_of l.net.signals l.bits.signal) l.bits.signal l.t) (take l.letter-index l.bits.letters))
