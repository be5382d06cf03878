use Rattle.std.proofs.Common.{[], ◌∷◌, refl, arith}
use Rattle.ct_base.specs.Access.{signal_of}
use Rattle.program_model.specs.RuleRows.{follow_row}
use Rattle.lo_program.proofs.BitLaws.{follow_terms_are, few_followers}
use Rattle.lo_program.proofs.RowLaws.{adds_row, row_there}
use Rattle.lo_program.proofs.FrontLaws.{front_exit, front_none}
use Rattle.lo_program.proofs.rules.letters.add_follow_row.Goals as goal

pub add_row-requires-clause-there : goal.add_row-requires-clause-there
add_row-requires-clause-there c =
    row_there c.args.net.now c.args.builder.now (follow_row (signal_of c.args.net.now.signals c.args.bits.now.signal) c.args.bits.now.signal c.args.t c.args.letter) c.push.new.self c.requires.fits
    (follow_terms_are c.args.net.now c.args.bits.now c.args.t c.args.letter c.in_ok-terms.terms c.push.new.self c.in_ok-terms.ensures (rw c.bit.ensures at c.in_ok-push.ensures.ok))

pub add_row-requires-clause-light : goal.add_row-requires-clause-light
add_row-requires-clause-light c =
    omega (arith, (few_followers c.args.net.now c.args.bits.now c.args.t c.args.letter c.in_ok-terms.terms c.push.new.self c.requires.valid c.requires.bits c.in_ok-terms.ensures (rw c.bit.ensures at c.in_ok-push.ensures.ok)).0)

pub add_row-requires-clause-few : goal.add_row-requires-clause-few
add_row-requires-clause-few c =
    omega (arith, (few_followers c.args.net.now c.args.bits.now c.args.t c.args.letter c.in_ok-terms.terms c.push.new.self c.requires.valid c.requires.bits c.in_ok-terms.ensures (rw c.bit.ensures at c.in_ok-push.ensures.ok)).1)

pub returns : goal.returns
returns c =
    adds_row c.args.net.now c.args.builder.now c.add_row.new.builder (follow_row (signal_of c.args.net.now.signals c.args.bits.now.signal) c.args.bits.now.signal c.args.t c.args.letter) _ _ c.push.new.self refl refl refl
    (follow_terms_are c.args.net.now c.args.bits.now c.args.t c.args.letter c.in_ok-terms.terms c.push.new.self c.in_ok-terms.ensures (rw c.bit.ensures at c.in_ok-push.ensures.ok)) c.in_ok-add_row.ensures.ok

pub returns-in_err-terms : goal.returns-in_err-terms
returns-in_err-terms c =
    front_exit _ c.from_residual.result c.from_residual.ensures.1
    (front_none c.args.net.now c.args.builder.now _ (follow_row (signal_of c.args.net.now.signals c.args.bits.now.signal) c.args.bits.now.signal c.args.t c.args.letter ∷ []) refl)

pub returns-in_err-push : goal.returns-in_err-push
returns-in_err-push c =
    front_exit _ c.from_residual-in_err-push.result c.from_residual-in_err-push.ensures.1
    (front_none c.args.net.now c.args.builder.now _ (follow_row (signal_of c.args.net.now.signals c.args.bits.now.signal) c.args.bits.now.signal c.args.t c.args.letter ∷ []) refl)

pub returns-in_err-add_row : goal.returns-in_err-add_row
returns-in_err-add_row c =
    front_exit _ c.from_residual-in_err-add_row.result c.from_residual-in_err-add_row.ensures.1
    (front_none c.args.net.now c.args.builder.now _ (follow_row (signal_of c.args.net.now.signals c.args.bits.now.signal) c.args.bits.now.signal c.args.t c.args.letter ∷ []) c.in_err-add_row.ensures.err)
