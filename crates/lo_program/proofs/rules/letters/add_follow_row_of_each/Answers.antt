use Rattle.std.proofs.Common.{arith}
use Rattle.ct_base.specs.Access.{signal_of}
use Rattle.program_model.specs.RuleRows.{follow_row}
use Rattle.lo_program.proofs.BitLaws.{letter_kept}
use Rattle.lo_program.proofs.RowLaws.{fits_mapped}
use Rattle.lo_program.proofs.FrontLaws.{front_exit, front_mapped}
use Rattle.lo_program.proofs.rules.letters.add_follow_row_of_each.Goals as goal

pub add_follow_row-requires-clause-letter : goal.add_follow_row-requires-clause-letter
add_follow_row-requires-clause-letter c = letter_kept c.args.net.now c.args.bits.now c.as_slice-letter-items.result.now c.loop-letter.letter-index _ c.requires.bits c.as_slice-letter-items.ensures (omega (arith, c.loop-letter-test.true))

pub add_follow_row-requires-clause-fits : goal.add_follow_row-requires-clause-fits
add_follow_row-requires-clause-fits c =
    fits_mapped c.args.net.now c.args.builder.now c.loop-letter.builder (follow_row (signal_of c.args.net.now.signals c.args.bits.now.signal) c.args.bits.now.signal c.args.t)
    c.as_slice-letter-items.result.now c.loop-letter.letter-index _ (rw (c.as_slice-letter-items.ensures, c.requires.bits.letters) c.requires.fits) (omega (arith, c.loop-letter-test.true))
    (rw c.as_slice-letter-items.ensures c.loop-letter.invariant)

pub returns-in_err-add_follow_row : goal.returns-in_err-add_follow_row
returns-in_err-add_follow_row c =
    front_exit _ c.from_residual.result c.from_residual.ensures.1
    (rw (← c.requires.bits.letters, ← c.as_slice-letter-items.ensures)
    (front_mapped c.args.net.now c.args.builder.now c.loop-letter.builder c.add_follow_row.new.builder (follow_row (signal_of c.args.net.now.signals c.args.bits.now.signal) c.args.bits.now.signal c.args.t)
    c.as_slice-letter-items.result.now c.loop-letter.letter-index _ (omega (arith, c.loop-letter-test.true)) (rw c.as_slice-letter-items.ensures c.loop-letter.invariant) c.in_err-add_follow_row.ensures))
