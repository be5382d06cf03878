use Rattle.std.proofs.Common.{◌∙◌, sym, arith}
use Rattle.lo_program.proofs.BitLaws.{letter_kept}
use Rattle.lo_program.proofs.MoveTerms.{green_left, green_passed}
use Rattle.lo_program.proofs.flows.moves.bits_of_greens.Goals as goal
use Rattle.lo_program.proofs.flows.moves.bits_of_greens.Goals.{then-is_green_among+in_ok-push, else-is_green_among}

pub bit-requires-clause-letter : goal.bit-requires-clause-letter
bit-requires-clause-letter c = letter_kept c.args.net.now c.args.bits.now c.as_slice-letter-items.result.now c.loop-letter.letter-index _ c.requires.bits c.as_slice-letter-items.ensures (omega (arith, c.loop-letter-test.true))

pub loop-letter-preserved : goal.loop-letter-preserved
loop-letter-preserved c =
    let net = c.args.net.now in
    let bits = c.args.bits.now in
    elim c.if-is_green_among.branch [
      | then-is_green_among+in_ok-push w ↦
          green_passed net c.args.t bits.signal c.args.greens c.loop-letter.letter-index w.bit.result bits.letters c.as_slice-letter-items.result.now _ c.loop-letter.found c.if-is_green_among.found c.as_slice-letter-items.ensures
          (omega (arith, c.loop-letter-test.true)) c.loop-letter.invariant (sym w.if-is_green_among.true ∙ c.is_green_among.ensures) w.bit.ensures (w.found-is ∙ w.in_ok-push.ensures.ok)
      | else-is_green_among w ↦
          green_left net c.args.t bits.signal c.args.greens c.loop-letter.letter-index bits.letters c.as_slice-letter-items.result.now _ c.loop-letter.found c.if-is_green_among.found c.as_slice-letter-items.ensures
          (omega (arith, c.loop-letter-test.true)) c.loop-letter.invariant (sym w.if-is_green_among.false ∙ c.is_green_among.ensures) w.found-is
    ]
