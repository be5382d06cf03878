use Rattle.std.proofs.Common.{arith}
use Rattle.lo_program.proofs.BitLaws.{letter_kept}
use Rattle.lo_program.proofs.rules.letters.terms_of_letters.Goals as goal

pub bit-requires-clause-letter : goal.bit-requires-clause-letter
bit-requires-clause-letter c = letter_kept c.args.net.now c.args.bits.now c.as_slice-letter-items.result.now c.loop-letter.letter-index _ c.requires.bits c.as_slice-letter-items.ensures (omega (arith, c.loop-letter-test.true))
