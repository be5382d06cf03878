-- Rows and columns are one matrix: the same entries stand in both, and prices and values meet in one sum.
use Rattle.std.proofs.Common.{◌≡◌, ◌⊎◌, inl, inr, ℕ, zero, suc, ◌<◌, List, [], ◌∷◌, ◌++◌, length, map, filter, All, Contains, cond, ap, ◌∙◌, sym, arith}
use Rattle.std.specs.Prelude.{ℤ, pos, ◌+ℤ◌, ◌*ℤ◌, ◌↔◌}
use Rattle.std.proofs.lemmas.Int.{ints}
use Rattle.std.proofs.lemmas.Bool.{cases_eq, eq-eqb, ne_eqb}
use Rattle.std.proofs.lemmas.List.Elements.{Contains-append_left, Contains-append_right, Contains-append_cases}
use Rattle.std.proofs.Math.IntN.{zero-*ℤ}
use Rattle.listed.specs.Below.{whole_sum_below}
use Rattle.listed.proofs.WholeSums.{whole_sum_below-zero, whole_sum_below-suc, whole_sum_below-same, whole_sum_below-mul, whole_sum_below-swap}
use Rattle.sparse_program.specs.Terms.{names, coefficient, terms_sum}
use Rattle.sparse_program.specs.Program.{row_of, no_row, terms_of, entry, terms_at, column_to, column_of, IsRow}
use Rattle.sparse_program.specs.declared.row.Row.{Row}
use Rattle.sparse_program.proofs.ColumnLaws.{column_to-none, column_to-more}
use Rattle.sparse_program.proofs.TermLaws.{sum_times, times_swap, terms_sum-append, terms_sum-entries}

-- ---- the same entries

-- an element of a list is its first or one of the others
contains_cons : {X : Type 0} (y : X) (xs : List X) (x : X) → Contains (y ∷ xs) x → (y ≡ x) ⊎ Contains xs x
contains_cons y xs x (zero, within, is) = inl is
contains_cons y xs x (suc k, within, is) = inr (k, omega arith, is)

-- one of the others is an element
contains_later : {X : Type 0} (y : X) (xs : List X) (x : X) → Contains xs x → Contains (y ∷ xs) x
contains_later y xs x (k, within, is) = (suc k, omega arith, is)

-- a row's first term is at a column, or not
terms_at-first : (m j : ℕ) (t : ℕ × ℤ) (terms : List (ℕ × ℤ)) → t.0 ≡ j → terms_at m j (t ∷ terms) ≡ (m, t.1) ∷ terms_at m j terms
terms_at-first m j t terms is = ap (λ b. map (λ (term : ℕ × ℤ). (m, term.1)) (cond b (t ∷ filter (names j) terms) (filter (names j) terms))) (eq-eqb t.0 j is)

terms_at-skip : (m j : ℕ) (t : ℕ × ℤ) (terms : List (ℕ × ℤ)) → (t.0 ≡ j → ⊥) → terms_at m j (t ∷ terms) ≡ terms_at m j terms
terms_at-skip m j t terms not_is = ap (λ b. map (λ (term : ℕ × ℤ). (m, term.1)) (cond b (t ∷ filter (names j) terms) (filter (names j) terms))) (ne_eqb t.0 j not_is)

-- what a row is at a column is one of its terms
from_terms_at : (m j : ℕ) (terms : List (ℕ × ℤ)) (i : ℕ) (c : ℤ) → Contains (terms_at m j terms) (i, c) → (m ≡ i) × Contains terms (j, c)
from_terms_at m j [] i c (k, within, is) = absurd (omega arith)
from_terms_at m j (t ∷ terms) i c has =
    elim (cases_eq t.0 j) [
      | inl e ↦
          elim (contains_cons (m, t.1) (terms_at m j terms) (i, c) (rw (terms_at-first m j t terms e) at has)) [
            | inl same ↦ (ap (λ (p : ℕ × ℤ). p.0) same, (0, omega arith, ap (λ n. (n, t.1)) e ∙ ap (λ (p : ℕ × ℤ). (j, p.1)) same))
            | inr later ↦ let rest = from_terms_at m j terms i c later in (rest.0, contains_later t terms (j, c) rest.1)
          ]
      | inr ne ↦ let rest = from_terms_at m j terms i c (rw (terms_at-skip m j t terms ne) at has) in (rest.0, contains_later t terms (j, c) rest.1)
    ]

-- each of its terms is what it is at the term's column
to_terms_at : (m j : ℕ) (terms : List (ℕ × ℤ)) (c : ℤ) → Contains terms (j, c) → Contains (terms_at m j terms) (m, c)
to_terms_at m j [] c (k, within, is) = absurd (omega arith)
to_terms_at m j (t ∷ terms) c has =
    elim (contains_cons t terms (j, c) has) [
      | inl same ↦
          let at : t.0 ≡ j = ap (λ (p : ℕ × ℤ). p.0) same in
          rw (terms_at-first m j t terms at) (0, omega arith, ap (λ (p : ℕ × ℤ). (m, p.1)) same)
      | inr later ↦
          elim (cases_eq t.0 j) [
            | inl e ↦ rw (terms_at-first m j t terms e) (contains_later (m, t.1) (terms_at m j terms) (m, c) (to_terms_at m j terms c later))
            | inr ne ↦ rw (terms_at-skip m j t terms ne) (to_terms_at m j terms c later)
          ]
    ]

-- an entry of the column of the first rows is a term of one of them
from_column : (rows : List Row) (m j i : ℕ) (c : ℤ) → Contains (column_to rows m j) (i, c) → (i < m) × Contains (terms_of rows i) (j, c)
from_column rows zero j i c has = let none : Contains [] (i, c) = rw (column_to-none rows j) at has in absurd (omega (arith, none.1))
from_column rows (suc m) j i c has =
    let more : column_to rows (suc m) j ≡ column_to rows m j ++ terms_at m j (terms_of rows m) = ap (λ k. column_to rows k j) (omega arith) ∙ column_to-more rows m j in
    elim (Contains-append_cases (column_to rows m j) (terms_at m j (terms_of rows m)) (i, c) (rw more at has)) [
      | inl before ↦ let rest = from_column rows m j i c before in (omega (arith, rest.0), rest.1)
      | inr here ↦ let row = from_terms_at m j (terms_of rows m) i c here in (omega (arith, row.0), rw (← row.0) row.1)
    ]

-- a term of one of the first rows is an entry of their column
to_column : (rows : List Row) (m j i : ℕ) (c : ℤ) → i < m → Contains (terms_of rows i) (j, c) → Contains (column_to rows m j) (i, c)
to_column rows zero j i c within has = absurd (omega arith)
to_column rows (suc m) j i c within has =
    let more : column_to rows (suc m) j ≡ column_to rows m j ++ terms_at m j (terms_of rows m) = ap (λ k. column_to rows k j) (omega arith) ∙ column_to-more rows m j in
    elim (cases_eq i m) [
      | inl e ↦ rw more (rw e (Contains-append_right (column_to rows m j) (terms_at m j (terms_of rows m)) (m, c) (to_terms_at m j (terms_of rows m) c (rw e at has))))
      | inr ne ↦ rw more (Contains-append_left (column_to rows m j) (terms_at m j (terms_of rows m)) (i, c) (to_column rows m j i c (omega arith) has))
    ]

-- rows and columns are one matrix
pub one_matrix : (rows : List Row) (i j : ℕ) (c : ℤ) → Contains (column_of rows j) (i, c) ↔ ((i < length rows) × Contains (terms_of rows i) (j, c))
one_matrix rows i j c = (from_column rows (length rows) j i c, λ has. to_column rows (length rows) j i c has.0 has.1)

-- ---- one sum

-- a row's sum is the sum of its entries times the values
pub row_sum : (columns : ℕ) (rows : List Row) (i : ℕ) (x : ℕ → ℤ) → IsRow columns (row_of rows i) → terms_sum (terms_of rows i) x ≡ whole_sum_below columns (λ j. entry rows i j *ℤ x j)
row_sum columns rows i x is = terms_sum-entries (terms_of rows i) columns x is.terms.there

-- what a row is at a column, times its price
terms_at-sum : (m j : ℕ) (terms : List (ℕ × ℤ)) (p : ℕ → ℤ) → terms_sum (terms_at m j terms) p ≡ coefficient terms j *ℤ p m
terms_at-sum m j [] p = sym (zero-*ℤ (p m))
terms_at-sum m j (t ∷ terms) p =
    let rest : terms_sum (terms_at m j terms) p ≡ coefficient terms j *ℤ p m = terms_at-sum m j terms p in
    let both : coefficient (t ∷ terms) j *ℤ p m ≡ (cond (names j t) t.1 (pos 0)) *ℤ p m +ℤ coefficient terms j *ℤ p m = sum_times (cond (names j t) t.1 (pos 0)) (coefficient terms j) (p m) in
    elim (cases_eq t.0 j) [
      | inl e ↦
          let sum : terms_sum (terms_at m j (t ∷ terms)) p ≡ t.1 *ℤ p m +ℤ terms_sum (terms_at m j terms) p = ap (λ xs. terms_sum xs p) (terms_at-first m j t terms e) in
          let here : (cond (names j t) t.1 (pos 0)) *ℤ p m ≡ t.1 *ℤ p m = ap (λ b. (cond b t.1 (pos 0)) *ℤ p m) (eq-eqb t.0 j e) in
          omega (arith, ints)
      | inr ne ↦
          let sum : terms_sum (terms_at m j (t ∷ terms)) p ≡ terms_sum (terms_at m j terms) p = ap (λ xs. terms_sum xs p) (terms_at-skip m j t terms ne) in
          let here : (cond (names j t) t.1 (pos 0)) *ℤ p m ≡ pos 0 = ap (λ b. (cond b t.1 (pos 0)) *ℤ p m) (ne_eqb t.0 j ne) ∙ zero-*ℤ (p m) in
          omega (arith, ints)
    ]

-- the sum of the column of the first rows
column_to-sum : (rows : List Row) (m j : ℕ) (p : ℕ → ℤ) → terms_sum (column_to rows m j) p ≡ whole_sum_below m (λ i. entry rows i j *ℤ p i)
column_to-sum rows zero j p = ap (λ xs. terms_sum xs p) (column_to-none rows j) ∙ sym (whole_sum_below-zero (λ i. entry rows i j *ℤ p i))
column_to-sum rows (suc m) j p =
    let more : column_to rows (suc m) j ≡ column_to rows m j ++ terms_at m j (terms_of rows m) = ap (λ k. column_to rows k j) (omega arith) ∙ column_to-more rows m j in
    let sum : terms_sum (column_to rows (suc m) j) p ≡ terms_sum (column_to rows m j) p +ℤ terms_sum (terms_at m j (terms_of rows m)) p = ap (λ xs. terms_sum xs p) more ∙ terms_sum-append (column_to rows m j) (terms_at m j (terms_of rows m)) p in
    let before : terms_sum (column_to rows m j) p ≡ whole_sum_below m (λ i. entry rows i j *ℤ p i) = column_to-sum rows m j p in
    let here : terms_sum (terms_at m j (terms_of rows m)) p ≡ entry rows m j *ℤ p m = terms_at-sum m j (terms_of rows m) p in
    let step : whole_sum_below (suc m) (λ i. entry rows i j *ℤ p i) ≡ whole_sum_below m (λ i. entry rows i j *ℤ p i) +ℤ entry rows m j *ℤ p m = ap (λ k. whole_sum_below k (λ i. entry rows i j *ℤ p i)) (omega arith) ∙ whole_sum_below-suc m (λ i. entry rows i j *ℤ p i) in
    omega (arith, ints)

-- a column's sum is the sum of its entries times the prices
pub column_sum : (rows : List Row) (j : ℕ) (p : ℕ → ℤ) → terms_sum (column_of rows j) p ≡ whole_sum_below (length rows) (λ i. entry rows i j *ℤ p i)
column_sum rows j p = column_to-sum rows (length rows) j p

-- prices times the sums of the rows are values times the sums of the columns
pub one_sum : (columns : ℕ) (rows : List Row) (p x : ℕ → ℤ) → All (IsRow columns) rows →
    whole_sum_below (length rows) (λ i. p i *ℤ terms_sum (terms_of rows i) x) ≡ whole_sum_below columns (λ j. x j *ℤ terms_sum (column_of rows j) p)
one_sum columns rows p x each =
    whole_sum_below-same (length rows) (λ i. p i *ℤ terms_sum (terms_of rows i) x) (λ i. whole_sum_below columns (λ j. p i *ℤ (entry rows i j *ℤ x j)))
    (λ i below. ap (λ z. p i *ℤ z) (row_sum columns rows i x (each i no_row below)) ∙ sym (whole_sum_below-mul columns (p i) (λ j. entry rows i j *ℤ x j)))
    ∙ whole_sum_below-swap (length rows) columns (λ i j. p i *ℤ (entry rows i j *ℤ x j))
    ∙ whole_sum_below-same columns (λ j. whole_sum_below (length rows) (λ i. p i *ℤ (entry rows i j *ℤ x j))) (λ j. x j *ℤ terms_sum (column_of rows j) p)
    (λ j below.
    whole_sum_below-same (length rows) (λ i. p i *ℤ (entry rows i j *ℤ x j)) (λ i. x j *ℤ (entry rows i j *ℤ p i)) (λ i within. times_swap (p i) (entry rows i j) (x j))
    ∙ whole_sum_below-mul (length rows) (x j) (λ i. entry rows i j *ℤ p i) ∙ ap (λ z. x j *ℤ z) (sym (column_sum rows j p)))
