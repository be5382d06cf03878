use Rattle.std.proofs.Common.{arith}
use Rattle.lo_program.proofs.BitLaws.{letter_kept}
use Rattle.lo_program.proofs.rules.letters.terms_of_followers.Goals as goal

pub may_follow-requires-clause-next : goal.may_follow-requires-clause-next
may_follow-requires-clause-next c =
    rw c.signal-signal.ensures.value
    (letter_kept c.args.net.now c.args.bits.now c.as_slice-next-items.result.now c.loop-next.next-index _ c.requires.bits c.as_slice-next-items.ensures (omega (arith, c.loop-next-test.true)))

pub bit-requires-clause-letter : goal.bit-requires-clause-letter
bit-requires-clause-letter c = letter_kept c.args.net.now c.args.bits.now c.as_slice-next-items.result.now c.loop-next.next-index _ c.requires.bits c.as_slice-next-items.ensures (omega (arith, c.loop-next-test.true))
