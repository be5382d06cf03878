-- What sums of columns come to: of two together, of one so many times, of equal columns, and of a row as the program holds it.
use Rattle.std.proofs.Common.{◌≡◌, ℕ, List, [], ◌∷◌, ◌++◌, map, sum_by, zero, suc, ◌*◌, ◌<◌, refl, sym, arith}
use Rattle.std.specs.Prelude.{ℤ, pos, neg_ℤ, ◌+ℤ◌, ◌-ℤ◌, ◌*ℤ◌}
use Rattle.std.proofs.lemmas.Int.{ints}
use Rattle.std.proofs.lemmas.List.{map-append}
use Rattle.std.proofs.lemmas.List.Sums.{sum_by-cons}
use Rattle.listed.specs.Below.{join_below, sum_below, table_of}
use Rattle.listed.proofs.WholeSums.{times_sum}
use Rattle.program_model.proofs.Products.{times_times}
use Rattle.program_model.specs.Rows.{AllMeet, Sum, SumRow, column, minus, number, once, plus, sum_at, terms_at, times, total}

-- of two lists of terms together
pub terms_at-append : {C : Type 0} (value : C → ℤ) (xs ys : List (C × ℤ)) → terms_at value (xs ++ ys) ≡ terms_at value xs +ℤ terms_at value ys
terms_at-append value [] ys = omega (arith, ints)
terms_at-append value (x ∷ xs) ys =
    let before : terms_at value (xs ++ ys) ≡ terms_at value xs +ℤ terms_at value ys = terms_at-append value xs ys in
    omega (arith, ints, before)

-- of two sums
pub sum_at-plus : {C : Type 0} (value : C → ℤ) (a b : Sum C) → sum_at value (plus a b) ≡ sum_at value a +ℤ sum_at value b
sum_at-plus value a b = omega (arith, ints, terms_at-append value a.terms b.terms)

-- of terms so many times
pub terms_at-times : {C : Type 0} (value : C → ℤ) (k : ℤ) (terms : List (C × ℤ)) →
    terms_at value (map (λ (term : C × ℤ). (term.0, k *ℤ term.1)) terms) ≡ k *ℤ terms_at value terms
terms_at-times value k [] = omega (arith, ints)
terms_at-times value k (term ∷ terms) = rw (terms_at-times value k terms, times_times k term.1 (value term.0)) (sym (times_sum k (term.1 *ℤ value term.0) (terms_at value terms)))

-- of a sum so many times
pub sum_at-times : {C : Type 0} (value : C → ℤ) (k : ℤ) (a : Sum C) → sum_at value (times k a) ≡ k *ℤ sum_at value a
sum_at-times value k a = rw (terms_at-times value k a.terms) (sym (times_sum k a.constant (terms_at value a.terms)))

-- of a difference
pub sum_at-minus : {C : Type 0} (value : C → ℤ) (a b : Sum C) → sum_at value (minus a b) ≡ sum_at value a -ℤ sum_at value b
sum_at-minus value a b = omega (arith, ints, sum_at-plus value a (times (neg_ℤ (pos 1)) b), sum_at-times value (neg_ℤ (pos 1)) b)

-- of a number, and of a column
pub sum_at-number : {C : Type 0} (value : C → ℤ) (n : ℕ) → sum_at value (number n) ≡ pos n
sum_at-number value n = omega (arith, ints)

pub sum_at-column : {C : Type 0} (value : C → ℤ) (c : C) → sum_at value (column c) ≡ value c
sum_at-column value c = omega (arith, ints)

-- of columns together, each of which is a natural number
pub sum_at-total_of_table : {C : Type 0} (value : C → ℤ) (n : ℕ) (columns : ℕ → C) (count : ℕ → ℕ) → ((k : ℕ) → k < n → value (columns k) ≡ pos (count k)) →
    sum_at value (total (table_of n columns)) ≡ pos (sum_below n count)
unfolding table_of sum_below
sum_at-total_of_table value zero columns count is = refl
sum_at-total_of_table {C} value (suc n) columns count is =
    let before : sum_at value (total (table_of n columns)) ≡ pos (sum_below n count) = sum_at-total_of_table value n columns count (λ k inside. is k (omega arith)) in
    let here : value (columns n) ≡ pos (count n) = is n (omega arith) in
    rw (map-append {B = C × ℤ} once (table_of n columns) (columns n ∷ []), terms_at-append value (map once (table_of n columns)) (once (columns n) ∷ []), here)
    (omega (arith, ints, before))

-- the same of a list
pub sum_at-total : {C X : Type 0} (value : C → ℤ) (column_of : X → C) (count : X → ℕ) → ((x : X) → value (column_of x) ≡ pos (count x)) → (xs : List X) →
    sum_at value (total (map column_of xs)) ≡ pos (sum_by count xs)
sum_at-total value column_of count is [] = refl
sum_at-total value column_of count is (x ∷ xs) =
    let rest : sum_at value (total (map column_of xs)) ≡ pos (sum_by count xs) = sum_at-total value column_of count is xs in
    omega (arith, ints, is x, rest, sum_by-cons count x xs)

-- of columns with coefficients that are natural numbers
pub terms_at-table : {C : Type 0} (value : C → ℤ) (n : ℕ) (columns : ℕ → C) (times_of count : ℕ → ℕ) → ((k : ℕ) → value (columns k) ≡ pos (count k)) →
    terms_at value (table_of n (λ k. (columns k, pos (times_of k)))) ≡ pos (sum_below n (λ k. times_of k * count k))
unfolding table_of sum_below
terms_at-table value zero columns times_of count is = refl
terms_at-table {C} value (suc n) columns times_of count is =
    let before : terms_at value (table_of n (λ k. (columns k, pos (times_of k)))) ≡ pos (sum_below n (λ k. times_of k * count k)) = terms_at-table value n columns times_of count is in
    let last : C × ℤ = (columns n, pos (times_of n)) in
    rw (terms_at-append value (table_of n (λ k. (columns k, pos (times_of k)))) (last ∷ []), is n) (omega (arith, ints, before))

-- rows that are met, of two lists together
pub AllMeet-append : {C : Type 0} (value : C → ℤ) (xs ys : List (SumRow C)) → AllMeet value xs → AllMeet value ys → AllMeet value (xs ++ ys)
AllMeet-append value [] ys left right = right
AllMeet-append value (x ∷ xs) ys left right = (left.0, AllMeet-append value xs ys left.1 right)

-- and of a join
pub AllMeet-join_below : {C : Type 0} (value : C → ℤ) (n : ℕ) (rows : ℕ → List (SumRow C)) → ((k : ℕ) → k < n → AllMeet value (rows k)) → AllMeet value (join_below n rows)
unfolding join_below
AllMeet-join_below value zero rows each = tt
AllMeet-join_below value (suc n) rows each =
    AllMeet-append value (join_below n rows) (rows n) (AllMeet-join_below value n rows (λ k inside. each k (omega arith))) (each n (omega arith))

-- and apart again
pub AllMeet-parts : {C : Type 0} (value : C → ℤ) (xs ys : List (SumRow C)) → AllMeet value (xs ++ ys) → AllMeet value xs × AllMeet value ys
AllMeet-parts value [] ys all = (tt, all)
AllMeet-parts value (x ∷ xs) ys all = let rest : AllMeet value xs × AllMeet value ys = AllMeet-parts value xs ys all.1 in ((all.0, rest.0), rest.1)
