use Rattle.std.proofs.Common.{[], ◌∷◌, refl, ◌∙◌, sym, arith}
use Rattle.ct_base.specs.Access.{signal_of}
use Rattle.program_model.specs.Columns.{letters_of}
use Rattle.program_model.specs.RuleRows.{one_letter_row}
use Rattle.lo_program.proofs.BitLaws.{few_letters_kept, bit_terms_are, weight_bit_terms, length_bit_terms}
use Rattle.lo_program.proofs.RowLaws.{adds_row, row_there}
use Rattle.lo_program.proofs.FrontLaws.{front_exit, front_none}
use Rattle.lo_program.proofs.rules.letters.add_one_letter_row.Goals as goal

pub add_row-requires-clause-there : goal.add_row-requires-clause-there
add_row-requires-clause-there c =
    row_there c.args.net.now c.args.builder.now (one_letter_row (signal_of c.args.net.now.signals c.args.bits.now.signal) c.args.bits.now.signal c.args.t) c.in_ok-terms.terms c.requires.fits
    (bit_terms_are c.args.net.now c.args.t c.args.bits.now.signal (letters_of (signal_of c.args.net.now.signals c.args.bits.now.signal)) ∙ sym c.in_ok-terms.ensures)

pub add_row-requires-clause-light : goal.add_row-requires-clause-light
add_row-requires-clause-light c =
    rw (c.in_ok-terms.ensures, weight_bit_terms c.args.net.now c.args.t c.args.bits.now.signal (letters_of (signal_of c.args.net.now.signals c.args.bits.now.signal)))
    (omega (arith, few_letters_kept c.args.net.now c.args.bits.now c.requires.valid c.requires.bits))

pub add_row-requires-clause-few : goal.add_row-requires-clause-few
add_row-requires-clause-few c =
    rw (c.in_ok-terms.ensures, length_bit_terms c.args.net.now c.args.t c.args.bits.now.signal (letters_of (signal_of c.args.net.now.signals c.args.bits.now.signal)))
    (omega (arith, few_letters_kept c.args.net.now c.args.bits.now c.requires.valid c.requires.bits))

pub returns : goal.returns
returns c =
    adds_row c.args.net.now c.args.builder.now c.add_row.new.builder (one_letter_row (signal_of c.args.net.now.signals c.args.bits.now.signal) c.args.bits.now.signal c.args.t) _ _ c.in_ok-terms.terms refl refl refl
    (bit_terms_are c.args.net.now c.args.t c.args.bits.now.signal (letters_of (signal_of c.args.net.now.signals c.args.bits.now.signal)) ∙ sym c.in_ok-terms.ensures) c.in_ok-add_row.ensures.ok

pub returns-in_err-terms : goal.returns-in_err-terms
returns-in_err-terms c =
    front_exit _ c.from_residual.result c.from_residual.ensures.1
    (front_none c.args.net.now c.args.builder.now _ (one_letter_row (signal_of c.args.net.now.signals c.args.bits.now.signal) c.args.bits.now.signal c.args.t ∷ []) refl)

pub returns-in_err-add_row : goal.returns-in_err-add_row
returns-in_err-add_row c =
    front_exit _ c.from_residual-in_err-add_row.result c.from_residual-in_err-add_row.ensures.1
    (front_none c.args.net.now c.args.builder.now _ (one_letter_row (signal_of c.args.net.now.signals c.args.bits.now.signal) c.args.bits.now.signal c.args.t ∷ []) c.in_err-add_row.ensures.err)
