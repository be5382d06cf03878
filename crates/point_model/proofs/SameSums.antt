-- Sums that come to the same under two values of each column, because the columns that they name have the same.
use Rattle.std.proofs.Common.{◌≡◌, List, [], ◌∷◌, map, refl, ap, ◌∙◌, sym, arith}
use Rattle.std.specs.Prelude.{ℤ, ◌+ℤ◌, ◌*ℤ◌}
use Rattle.std.proofs.lemmas.Int.{ints}
use Rattle.program_model.specs.Rows.{Sum, column, minus, plus, sum_at, terms_at, times, total}
use Rattle.program_model.proofs.ColumnLaws.{Each}
use Rattle.program_model.proofs.SumLaws.{sum_at-column, sum_at-minus, sum_at-plus, sum_at-times}

-- the sum comes to the same under both
abbrev pub Same : {C : Type 0} → (C → ℤ) → (C → ℤ) → Sum C → Type 0
Same value other sum = sum_at value sum ≡ sum_at other sum

pub same-column : {C : Type 0} (value other : C → ℤ) (c : C) → value c ≡ other c → Same value other (column c)
same-column value other c is = sum_at-column value c ∙ is ∙ sym (sum_at-column other c)

pub same-times : {C : Type 0} (value other : C → ℤ) (k : ℤ) (a : Sum C) → Same value other a → Same value other (times k a)
same-times value other k a same = sum_at-times value k a ∙ ap (λ (z : ℤ). k *ℤ z) same ∙ sym (sum_at-times other k a)

pub same-plus : {C : Type 0} (value other : C → ℤ) (a b : Sum C) → Same value other a → Same value other b → Same value other (plus a b)
same-plus value other a b left right = omega (arith, ints, sum_at-plus value a b, sum_at-plus other a b, left, right)

pub same-minus : {C : Type 0} (value other : C → ℤ) (a b : Sum C) → Same value other a → Same value other b → Same value other (minus a b)
same-minus value other a b left right = omega (arith, ints, sum_at-minus value a b, sum_at-minus other a b, left, right)

-- terms whose columns have the same
pub same-terms : {C : Type 0} (value other : C → ℤ) (terms : List (C × ℤ)) → Each (λ (term : C × ℤ). value term.0 ≡ other term.0) terms → terms_at value terms ≡ terms_at other terms
same-terms value other [] each = refl
same-terms value other (term ∷ terms) each =
    ap (λ (z : ℤ). term.1 *ℤ z +ℤ terms_at value terms) each.0 ∙ ap (λ (z : ℤ). term.1 *ℤ other term.0 +ℤ z) (same-terms value other terms each.1)

-- columns together, one for each element of a list
pub same-total : {C X : Type 0} (value other : C → ℤ) (column_of : X → C) (xs : List X) → Each (λ (x : X). value (column_of x) ≡ other (column_of x)) xs →
    Same value other (total (map column_of xs))
same-total value other column_of [] each = refl
same-total value other column_of (x ∷ xs) each =
    let rest : Same value other (total (map column_of xs)) = same-total value other column_of xs each.1 in
    omega (arith, ints, each.0, rest)
