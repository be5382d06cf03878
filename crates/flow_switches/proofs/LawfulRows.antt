-- A row over the numbers of columns as a program holds it: what it is made of, and that it is lawful.
use Rattle.std.proofs.Common.{◌≡◌, ℕ, ◌≤◌, List, length, ap, ◌∙◌, sym, arith}
use Rattle.std.specs.Prelude.{ℤ, ◌-ℤ◌}
use Rattle.std.proofs.lemmas.List.{map-id}
use Rattle.sparse_program.specs.Program.{IsRow, row_from}
use Rattle.sparse_program.specs.Terms.{AreTerms, IsSmall, nonzero, rising, weight}
use Rattle.sparse_program.specs.declared.limits.TheConstants.{MAX_NUMBER, MAX_TERMS}
use Rattle.sparse_program.specs.declared.row.Linear.{Linear}
use Rattle.sparse_program.specs.declared.row.Row.{Row}
use Rattle.sparse_program.proofs.BuildLaws.{IsRow-row_from}
use Rattle.sparse_program.proofs.LawfulTerms.{AreTerms-rising, length-rising}
use Rattle.program_model.specs.Rows.{SumRow}
use Rattle.program_model.specs.Sparse.{by_number}
use Rattle.flow_switches.specs.Conditions.{AreBelow}
use Rattle.flow_switches.specs.Sums.{held}

-- a row over columns below a count: its terms are few and light, and its right side is small
pub record IsLawful (columns : ℕ) (row : SumRow ℕ) : Type 0 where
  pub there : AreBelow columns row.sum.terms
  pub few : length row.sum.terms ≤ MAX_TERMS
  pub light : weight row.sum.terms ≤ MAX_NUMBER
  pub small : IsSmall (row.rhs -ℤ row.sum.constant)

-- the terms of a row over the numbers of columns are by number
by_number-same : (terms : List (ℕ × ℤ)) → by_number (λ (column : ℕ). column) terms ≡ terms
by_number-same terms = map-id terms

-- the row that is made of an expression with these terms by rising column, and with this constant
pub held_as : (row : SumRow ℕ) (rhs : ℤ) (of : Linear) → of.terms ≡ rising row.sum.terms → rhs -ℤ of.constant ≡ row.rhs -ℤ row.sum.constant →
    row_from row.equal rhs of ≡ held row
held_as row rhs of terms right =
    let by_right : ℤ → Row = λ z. record { equal = row.equal; rhs = z; terms = nonzero of.terms } in
    let by_terms : List (ℕ × ℤ) → Row = λ ts. record { equal = row.equal; rhs = row.rhs -ℤ row.sum.constant; terms = nonzero ts } in
    ap by_right right ∙ ap by_terms (terms ∙ ap rising (sym (by_number-same row.sum.terms)))

-- it is lawful where the row is
pub IsRow-held : (columns : ℕ) (row : SumRow ℕ) → IsLawful columns row → IsRow columns (held row)
IsRow-held columns row lawful =
    let terms : AreTerms columns (rising row.sum.terms) = AreTerms-rising columns row.sum.terms lawful.there lawful.light in
    let few : length (rising row.sum.terms) ≤ MAX_TERMS = omega (arith, length-rising row.sum.terms, lawful.few) in
    rw (by_number-same row.sum.terms) (IsRow-row_from columns row.equal row.rhs (record { constant = row.sum.constant; terms = rising row.sum.terms }) terms few lawful.small)
