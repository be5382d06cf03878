use Rattle.std.proofs.Common.{◌≡◌, [], ◌∷◌, ◌+◌, ℕ, refl, ◌∙◌, sym, arith, rules, w64, to_z, of_z}
use Rattle.std.specs.Prelude.{ℤ, pos, neg_ℤ}
use Rattle.std.proofs.lemmas.Int.{to_z-of_z}
use Rattle.listed.proofs.TableLaws.{length-table_of}
use Rattle.program_model.specs.Columns.{Bit}
use Rattle.program_model.specs.Numbers.{number_of}
use Rattle.program_model.specs.RuleRows.{end_row}
use Rattle.lo_program.proofs.LastingLaws.{taken-table, weight-table}
use Rattle.lo_program.proofs.RowLaws.{adds_row, row_there}
use Rattle.lo_program.proofs.rules.lasting.add_end_row.Goals as goal
use Rattle.lo_program.proofs.FrontLaws.{front_exit, front_none}
use mir.Val.{SFits}

pub add_row-requires-clause-there : goal.add_row-requires-clause-there
add_row-requires-clause-there c =
    row_there c.args.net.now c.args.builder.now (end_row c.args.bits.now.signal c.args.t c.args.letter c.args.most) c.in_ok-terms.terms c.requires.fits
    (taken-table c.args.net.now (c.args.most + 1) (λ k. Bit (c.args.t + k) c.args.bits.now.signal c.args.letter) ∙ sym c.in_ok-terms.ensures)

pub add_row-requires-clause-light : goal.add_row-requires-clause-light
add_row-requires-clause-light c = rw (c.in_ok-terms.ensures, weight-table (c.args.most + 1) (λ k. number_of c.args.net.now (Bit (c.args.t + k) c.args.bits.now.signal c.args.letter))) (omega (arith, c.requires.small))

pub add_row-requires-clause-few : goal.add_row-requires-clause-few
add_row-requires-clause-few c =
    let f : ℕ → ℕ × ℤ = (λ k. (number_of c.args.net.now (Bit (c.args.t + k) c.args.bits.now.signal c.args.letter), neg_ℤ (pos 1))) in
    rw (c.in_ok-terms.ensures, length-table_of (c.args.most + 1) f) (omega (arith, c.requires.small))

pub returns : goal.returns
returns c =
    let fits : SFits w64 c.minus-rhs.result = search rules in
    let kept : to_z w64 (of_z w64 c.minus-rhs.result) ≡ c.minus-rhs.result = to_z-of_z w64 c.minus-rhs.result fits in
    adds_row c.args.net.now c.args.builder.now c.add_row.new.builder (end_row c.args.bits.now.signal c.args.t c.args.letter c.args.most) _ (to_z w64 (of_z w64 c.minus-rhs.result)) c.in_ok-terms.terms refl (sym (kept ∙ c.minus-rhs.ensures)) refl
    (taken-table c.args.net.now (c.args.most + 1) (λ k. Bit (c.args.t + k) c.args.bits.now.signal c.args.letter) ∙ sym c.in_ok-terms.ensures) c.in_ok-add_row.ensures.ok

pub returns-in_err-terms : goal.returns-in_err-terms
returns-in_err-terms c =
    front_exit _ c.from_residual.result c.from_residual.ensures.1
    (front_none c.args.net.now c.args.builder.now _ (end_row c.args.bits.now.signal c.args.t c.args.letter c.args.most ∷ []) refl)

pub returns-in_err-add_row : goal.returns-in_err-add_row
returns-in_err-add_row c =
    front_exit _ c.from_residual-in_err-add_row.result c.from_residual-in_err-add_row.ensures.1
    (front_none c.args.net.now c.args.builder.now _ (end_row c.args.bits.now.signal c.args.t c.args.letter c.args.most ∷ []) c.in_err-add_row.ensures.err)
