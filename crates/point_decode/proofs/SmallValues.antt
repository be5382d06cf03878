-- Values within the bounds of their columns are small, and so are their products with coefficients.
use Rattle.std.proofs.Common.{◌≡◌, ℕ, ◌+◌, ◌<◌, ◌≤◌, ◌^◌, List, [], ◌∷◌, ◌++◌, length, get_or, take, ap, arith}
use Rattle.std.specs.Prelude.{ℤ, ◌+ℤ◌, ◌*ℤ◌, ◌≤ℤ◌, unsigned_abs, FitsSigned}
use Rattle.std.specs.Int.{w64}
use Rattle.std.proofs.Math.Nat.{mul-le-mul}
use Rattle.std.proofs.lemmas.Int.{fits_signed_mul, ints, to_z-of_z, unsigned_abs-mul}
use Rattle.std.proofs.lemmas.List.{take_more}
use mir.Val.{of_z, to_z}
use Rattle.refusals.specs.Faults.{per_item}
use Rattle.sparse_program.specs.Program.{IsCol, IsProgram, Parts, col_of, no_col}
use Rattle.sparse_program.specs.Terms.{IsSmall, terms_sum}
use Rattle.sparse_program.proofs.TermLaws.{terms_sum-append}
use Rattle.program_model.specs.Points.{value_at}
use Rattle.point_decode.specs.Breaks.{column_breaks}
use Rattle.point_decode.specs.inner.Small.{AreSmall}
use Rattle.point_decode.proofs.BreakLaws.{IsWithin, all_within}

-- a value between small bounds is small
between_small : (low value high : ℤ) → IsSmall low → IsSmall high → low ≤ℤ value → value ≤ℤ high → IsSmall value
between_small low value high small_low small_high above below = omega (arith, ints)

-- the values of a list with no broken column are small
pub unbroken_are_small : (program : Parts) (point : List ℤ) → IsProgram program → length point ≡ length program.columns → per_item program.columns (column_breaks point) ≡ [] → AreSmall point
unbroken_are_small program point lawful long none j inside =
    let there : j < length program.columns = omega (arith, inside, long) in
    let col : IsCol (col_of program.columns j) = lawful.built.each_column j no_col there in
    let is : IsWithin (col_of program.columns j) (value_at point j) = all_within program point none j there in
    between_small (col_of program.columns j).low (value_at point j) (col_of program.columns j).high col.low col.high is.low is.high

-- a product of small numbers
pub product_is_small : (a b : ℤ) → IsSmall a → IsSmall b → unsigned_abs (a *ℤ b) ≤ 2 ^ 40
product_is_small a b first second = omega (arith, unsigned_abs-mul a b, mul-le-mul first second)

product_fits : (a b : ℤ) → IsSmall a → IsSmall b → FitsSigned w64 (a *ℤ b)
product_fits a b first second = fits_signed_mul w64 a b (2 ^ 20) (2 ^ 20) first second (omega arith)

-- is what 64 bits hold of it
pub product_is : (a b : ℤ) → IsSmall a → IsSmall b → to_z w64 (of_z w64 (to_z w64 (of_z w64 a) *ℤ to_z w64 (of_z w64 b))) ≡ a *ℤ b
product_is a b first second =
    let left : to_z w64 (of_z w64 a) ≡ a = omega (arith, ints) in
    let right : to_z w64 (of_z w64 b) ≡ b = omega (arith, ints) in
    rw (left, right) (to_z-of_z w64 (a *ℤ b) (product_fits a b first second))

-- a term more in a sum
pub terms_sum-more : (terms : List (ℕ × ℤ)) (i : ℕ) (d : ℕ × ℤ) (x : ℕ → ℤ) → i < length terms → terms_sum (take (i + 1) terms) x ≡ terms_sum (take i terms) x +ℤ (get_or terms i d).1 *ℤ x (get_or terms i d).0
terms_sum-more terms i d x within =
    let more : terms_sum (take (i + 1) terms) x ≡ terms_sum (take i terms ++ get_or terms i d ∷ []) x = ap (λ xs. terms_sum xs x) (take_more terms i d within) in
    let apart : terms_sum (take i terms ++ get_or terms i d ∷ []) x ≡ terms_sum (take i terms) x +ℤ terms_sum (get_or terms i d ∷ []) x = terms_sum-append (take i terms) (get_or terms i d ∷ []) x in
    omega (arith, ints, more, apart)
