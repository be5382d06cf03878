-- A row as the program holds it holds at exactly the values that meet the row of what its columns count.
use Rattle.std.proofs.Common.{◌≡◌, ℕ, true, false, Bool, List, [], ◌∷◌, refl, ◌∙◌, arith, ◌↔◌}
use Rattle.std.specs.Prelude.{ℤ, ◌+ℤ◌, ◌-ℤ◌}
use Rattle.std.proofs.lemmas.Int.{ints}
use Rattle.sparse_program.specs.Program.{Holds, Reaches}
use Rattle.sparse_program.specs.Terms.{rising, terms_sum}
use Rattle.sparse_program.proofs.TermLaws.{terms_sum-nonzero, terms_sum-rising}
use Rattle.program_model.specs.Rows.{Compares, Meets, SumRow, terms_at}
use Rattle.program_model.specs.Sparse.{by_number, sparse}

-- terms by the numbers of their columns
terms_sum-by_number : {C : Type 0} (x : ℕ → ℤ) (number : C → ℕ) (terms : List (C × ℤ)) → terms_sum (by_number number terms) x ≡ terms_at (λ c. x (number c)) terms
terms_sum-by_number x number [] = refl
terms_sum-by_number x number (term ∷ terms) = rw (terms_sum-by_number x number terms)

-- the terms of a row as the program holds it
pub terms_sum-sparse : {C : Type 0} (x : ℕ → ℤ) (number : C → ℕ) (row : SumRow C) → terms_sum (sparse number row).terms x ≡ terms_at (λ c. x (number c)) row.sum.terms
terms_sum-sparse x number row =
    terms_sum-nonzero (rising (by_number number row.sum.terms)) x ∙ terms_sum-rising (by_number number row.sum.terms) x ∙ terms_sum-by_number x number row.sum.terms

-- the constant on the other side
reaches_apart : (equal : Bool) (constant terms rhs : ℤ) → Reaches equal (rhs -ℤ constant) terms ↔ Compares equal (constant +ℤ terms) rhs
reaches_apart true constant terms rhs = ((λ h. omega (arith, ints, h)), (λ h. omega (arith, ints, h)))
reaches_apart false constant terms rhs = ((λ h. omega (arith, ints, h)), (λ h. omega (arith, ints, h)))

-- the row holds at values of the numbered columns exactly where they meet the other
pub holds-sparse : {C : Type 0} (x : ℕ → ℤ) (number : C → ℕ) (row : SumRow C) → Holds (sparse number row) x ↔ Meets (λ c. x (number c)) row
holds-sparse x number row = rw (terms_sum-sparse x number row) (reaches_apart row.equal row.sum.constant (terms_at (λ c. x (number c)) row.sum.terms) row.rhs)
