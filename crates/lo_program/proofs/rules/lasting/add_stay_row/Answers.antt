use Rattle.program_model.specs.RuleRows.{stay_row}
use Rattle.lo_program.proofs.LastingLaws.{stay_terms}
use Rattle.lo_program.proofs.RowLaws.{row_there}
use Rattle.std.proofs.Common.{[], ◌∷◌, refl}
use Rattle.lo_program.proofs.FrontLaws.{front_exit, front_none}
use Rattle.lo_program.proofs.rules.lasting.add_stay_row.Goals as goal

pub add_row-requires-clause-there : goal.add_row-requires-clause-there
add_row-requires-clause-there c =
    row_there c.args.net.now c.args.builder.now (stay_row c.args.bits.now.signal c.args.t c.args.letter c.args.k) c.push_letter_before.new.terms c.requires.fits
    (stay_terms c.args.net.now c.args.bits.now.signal c.args.t c.args.k c.args.letter c.new-terms.result c.push.new.self c.push-2.new.self c.push_letter_before.new.terms
    c.new-terms.ensures (rw c.bit.ensures at c.in_ok-push.ensures.ok) (rw c.bit-2.ensures at c.in_ok-push-2.ensures.ok) c.in_ok-push_letter_before.ensures)

pub returns-in_err-push : goal.returns-in_err-push
returns-in_err-push c =
    front_exit _ c.from_residual.result c.from_residual.ensures.1
    (front_none c.args.net.now c.args.builder.now _ (stay_row c.args.bits.now.signal c.args.t c.args.letter c.args.k ∷ []) refl)

pub returns-in_err-push-2 : goal.returns-in_err-push-2
returns-in_err-push-2 c =
    front_exit _ c.from_residual-in_err-push-2.result c.from_residual-in_err-push-2.ensures.1
    (front_none c.args.net.now c.args.builder.now _ (stay_row c.args.bits.now.signal c.args.t c.args.letter c.args.k ∷ []) refl)

pub returns-in_err-push_letter_before : goal.returns-in_err-push_letter_before
returns-in_err-push_letter_before c =
    front_exit _ c.from_residual-in_err-push_letter_before.result c.from_residual-in_err-push_letter_before.ensures.1
    (front_none c.args.net.now c.args.builder.now _ (stay_row c.args.bits.now.signal c.args.t c.args.letter c.args.k ∷ []) refl)

pub returns-in_err-add_row : goal.returns-in_err-add_row
returns-in_err-add_row c =
    front_exit _ c.from_residual-in_err-add_row.result c.from_residual-in_err-add_row.ensures.1
    (front_none c.args.net.now c.args.builder.now _ (stay_row c.args.bits.now.signal c.args.t c.args.letter c.args.k ∷ []) c.in_err-add_row.ensures.err)
