-- Two words, of which the first is a column's number and the second the value.
use Rattle.std.proofs.Common.{rules, Some, None, sym, ap, ◌∙◌, FitsSigned, w64}
use Rattle.std.proofs.lemmas.Int.{to_z-of_z}
use Rattle.cert_format.specs.Marks.{marked}
use Rattle.cert_format.proofs.LineLaws.{split_by}
use Rattle.cert_format.proofs.line.read_split.Goals as goal

pub returns-in_err-at : goal.returns-in_err-at
returns-in_err-at c = λ pairs.
    ap (λ mark. marked mark pairs) c.from_residual-in_err-at.ensures
    ∙ sym (split_by c.args.words.now c.in_ok-column.column.now c.in_ok-column.at.now (Some c.in_ok-column-2.column) None c.in_ok-column.ensures (sym c.in_ok-column-2.ensures.value) (sym c.in_err-at.ensures.value))

pub returns : goal.returns
returns c = λ pairs.
    let fits : FitsSigned w64 c.in_ok-at.at = search rules in
    simp to_z-of_z (sym (split_by c.args.words.now c.in_ok-column.column.now c.in_ok-column.at.now (Some c.in_ok-column-2.column) (Some c.in_ok-at.at) c.in_ok-column.ensures (sym c.in_ok-column-2.ensures.value) (sym c.in_ok-at.ensures.value)))
