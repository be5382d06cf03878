use Rattle.std.proofs.Common.{◌≡◌, take}
use Rattle.std.specs.Prelude.{pos}
use Rattle.lo_program.specs.inner.Bits.{bit_terms}
use Rattle.lo_program.proofs.rules.letters.terms_of_letters.Given as goal

abbrev pub invariant-loop-letter : goal.invariant-loop-letter
invariant-loop-letter l = l.terms ≡ bit_terms l.net l.t l.bits.signal (pos 1) (take l.letter-index l.bits.letters)
