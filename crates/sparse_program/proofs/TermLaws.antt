-- Laws of terms: their sum as a sum over all numbers, terms joined, inserted and left out.
use Rattle.std.proofs.Common.{◌≡◌, ◌≢◌, ◌⊎◌, inl, inr, ℕ, zero, suc, ◌+◌, ◌*◌, ◌<◌, ◌≤◌, List, [], ◌∷◌, ◌++◌, length, get_or, filter, All, Contains, Bool, true, false, cond, not, eqb, refl, ap, ◌∙◌, sym, arith}
use Rattle.std.specs.Prelude.{ℤ, pos, ◌+ℤ◌, ◌*ℤ◌, unsigned_abs, nat_lt}
use Rattle.std.proofs.lemmas.Int.{ints}
use Rattle.std.proofs.lemmas.Bool.{cases_Bool, cases_eq, eq-eqb, ne_eqb, eqb-true}
use Rattle.std.proofs.lemmas.List.Elements.{All-head, All-tail}
use Rattle.std.proofs.Math.IntN.{*ℤ_comm, zero-*ℤ}
use borrow.Author.Differences.{up, down, product_is}
use Rattle.listed.specs.Below.{whole_sum_below}
use Rattle.listed.proofs.WholeSums.{whole_sum_below-add, whole_sum_below-none, whole_sum_below-only, whole_sum_below-same, times_sum}
use Rattle.sparse_program.specs.Terms.{names, Rises, AreTerms, coefficient, terms_sum, inserted, nonzero, rising}

-- ---- products of whole numbers

-- a common factor on the right
pub sum_times : (a b c : ℤ) → (a +ℤ b) *ℤ c ≡ a *ℤ c +ℤ b *ℤ c
sum_times a b c = *ℤ_comm (a +ℤ b) c ∙ times_sum c a b ∙ ap (λ z. z +ℤ c *ℤ b) (*ℤ_comm c a) ∙ ap (λ z. a *ℤ c +ℤ z) (*ℤ_comm c b)

-- the outer factors of a product of three change places
pub times_swap : (p a x : ℤ) → p *ℤ (a *ℤ x) ≡ x *ℤ (a *ℤ p)
times_swap p a x =
    let inner = product_is a x in
    let other = product_is a p in
    let left = product_is p (a *ℤ x) in
    let right = product_is x (a *ℤ p) in
    let by = λ (k : ℕ) (m n : ℕ) (e : m ≡ n). ap (λ y. k * y) e in
    omega (arith, ints, left.0, left.1, right.0, right.1, by (up p) _ _ inner.0, by (down p) _ _ inner.0, by (up p) _ _ inner.1, by (down p) _ _ inner.1, by (up x) _ _ other.0, by (down x) _ _ other.0, by (up x) _ _ other.1, by (down x) _ _ other.1)

-- ---- the sum of terms

-- terms joined
pub terms_sum-append : (xs ys : List (ℕ × ℤ)) (x : ℕ → ℤ) → terms_sum (xs ++ ys) x ≡ terms_sum xs x +ℤ terms_sum ys x
terms_sum-append [] ys x = omega (arith, ints)
terms_sum-append (t ∷ xs) ys x = let rest : terms_sum (xs ++ ys) x ≡ terms_sum xs x +ℤ terms_sum ys x = terms_sum-append xs ys x in omega (arith, ints)

-- the coefficient of a term and of the others, at a value
coefficient-cons : (t : ℕ × ℤ) (terms : List (ℕ × ℤ)) (j : ℕ) (value : ℤ) → coefficient (t ∷ terms) j *ℤ value ≡ (cond (names j t) t.1 (pos 0)) *ℤ value +ℤ coefficient terms j *ℤ value
coefficient-cons t terms j value = sum_times (cond (names j t) t.1 (pos 0)) (coefficient terms j) value

-- the sum of terms is the sum of coefficient times value over all numbers that they name
pub terms_sum-entries : (terms : List (ℕ × ℤ)) (n : ℕ) (x : ℕ → ℤ) → All (λ (term : ℕ × ℤ). term.0 < n) terms → terms_sum terms x ≡ whole_sum_below n (λ j. coefficient terms j *ℤ x j)
terms_sum-entries [] n x there = sym (whole_sum_below-none n (λ j. pos 0 *ℤ x j) (λ k below. zero-*ℤ (x k)))
terms_sum-entries (t ∷ terms) n x there =
    let first : whole_sum_below n (λ j. (cond (names j t) t.1 (pos 0)) *ℤ x j) ≡ t.1 *ℤ x t.0 =
    whole_sum_below-only n t.0 (λ j. (cond (names j t) t.1 (pos 0)) *ℤ x j) (All-head (λ (term : ℕ × ℤ). term.0 < n) t terms there)
    (λ k below other. ap (λ b. (cond b t.1 (pos 0)) *ℤ x k) (ne_eqb t.0 k (λ same. other (sym same))) ∙ zero-*ℤ (x k)) ∙ ap (λ b. (cond b t.1 (pos 0)) *ℤ x t.0) (eq-eqb t.0 t.0 refl) in
    let rest : terms_sum terms x ≡ whole_sum_below n (λ j. coefficient terms j *ℤ x j) = terms_sum-entries terms n x (All-tail (λ (term : ℕ × ℤ). term.0 < n) t terms there) in
    let both : whole_sum_below n (λ j. coefficient (t ∷ terms) j *ℤ x j) ≡ whole_sum_below n (λ j. (cond (names j t) t.1 (pos 0)) *ℤ x j) +ℤ whole_sum_below n (λ j. coefficient terms j *ℤ x j) =
    whole_sum_below-same n (λ j. coefficient (t ∷ terms) j *ℤ x j) (λ j. (cond (names j t) t.1 (pos 0)) *ℤ x j +ℤ coefficient terms j *ℤ x j) (λ k below. coefficient-cons t terms k (x k))
    ∙ whole_sum_below-add n (λ j. (cond (names j t) t.1 (pos 0)) *ℤ x j) (λ j. coefficient terms j *ℤ x j) in
    omega (arith, ints)

-- ---- terms that are left out

-- a coefficient of 0
zero_abs : (z : ℤ) → unsigned_abs z ≡ 0 → z ≡ pos 0
zero_abs z none = omega (arith, ints)

-- the terms with coefficient 0 add nothing
pub terms_sum-nonzero : (terms : List (ℕ × ℤ)) (x : ℕ → ℤ) → terms_sum (nonzero terms) x ≡ terms_sum terms x
terms_sum-nonzero [] x = refl
terms_sum-nonzero (t ∷ terms) x =
    let rest : terms_sum (nonzero terms) x ≡ terms_sum terms x = terms_sum-nonzero terms x in
    elim (cases_eq (unsigned_abs t.1) 0) [
      | inl none ↦
          let gone : nonzero (t ∷ terms) ≡ nonzero terms = ap (λ b. cond (not b) (t ∷ nonzero terms) (nonzero terms)) (eq-eqb (unsigned_abs t.1) 0 none) in
          let nothing : t.1 *ℤ x t.0 ≡ pos 0 = ap (λ z. z *ℤ x t.0) (zero_abs t.1 none) ∙ zero-*ℤ (x t.0) in
          ap (λ xs. terms_sum xs x) gone ∙ (omega (arith, ints))
      | inr some ↦
          let kept : nonzero (t ∷ terms) ≡ t ∷ nonzero terms = ap (λ b. cond (not b) (t ∷ nonzero terms) (nonzero terms)) (ne_eqb (unsigned_abs t.1) 0 some) in
          ap (λ xs. terms_sum xs x) kept ∙ (omega (arith, ints))
    ]

-- ---- a term inserted

-- it adds its coefficient times its value
pub terms_sum-inserted : (terms : List (ℕ × ℤ)) (term : ℕ × ℤ) (x : ℕ → ℤ) → terms_sum (inserted terms term) x ≡ term.1 *ℤ x term.0 +ℤ terms_sum terms x
terms_sum-inserted [] term x = refl
terms_sum-inserted (other ∷ terms) term x =
    elim (cases_Bool (nat_lt term.0 other.0)) [
      | inl below ↦ rw below
      | inr above ↦
          elim (cases_Bool (eqb other.0 term.0)) [
            | inl same ↦ rw (above, same, sum_times other.1 term.1 (x other.0), eqb-true other.0 term.0 same) (omega (arith, ints))
            | inr apart ↦ rw (above, apart, terms_sum-inserted terms term x) (omega (arith, ints))
          ]
    ]

-- terms in any order, by rising number
pub terms_sum-rising : (terms : List (ℕ × ℤ)) (x : ℕ → ℤ) → terms_sum (rising terms) x ≡ terms_sum terms x
terms_sum-rising [] x = refl
terms_sum-rising (term ∷ terms) x = terms_sum-inserted (rising terms) term x ∙ ap (λ (z : ℤ). term.1 *ℤ x term.0 +ℤ z) (terms_sum-rising terms x)

-- ---- the coefficient of rising terms

-- terms without a number
pub coefficient-none : (terms : List (ℕ × ℤ)) (j : ℕ) → All (λ (term : ℕ × ℤ). term.0 ≢ j) terms → coefficient terms j ≡ pos 0
coefficient-none [] j none = refl
coefficient-none (t ∷ terms) j none =
    let rest : coefficient terms j ≡ pos 0 = coefficient-none terms j (All-tail (λ (term : ℕ × ℤ). term.0 ≢ j) t terms none) in
    let here : cond (names j t) t.1 (pos 0) ≡ pos 0 = ap (λ b. cond b t.1 (pos 0)) (ne_eqb t.0 j (All-head (λ (term : ℕ × ℤ). term.0 ≢ j) t terms none)) in
    omega (arith, ints)

-- what rises without its first term
pub Rises-tail : (t : ℕ × ℤ) (terms : List (ℕ × ℤ)) → Rises (t ∷ terms) → Rises terms
Rises-tail t terms rises i j d before within = rises (suc i) (suc j) d (omega arith) (omega arith)

-- the first term is below the others
pub Rises-head : (t : ℕ × ℤ) (terms : List (ℕ × ℤ)) → Rises (t ∷ terms) → All (λ (term : ℕ × ℤ). t.0 < term.0) terms
Rises-head t terms rises k d within = rises 0 (suc k) d (omega arith) (omega arith)

-- rising terms have one coefficient at each number that they name
pub coefficient-term : (terms : List (ℕ × ℤ)) (k j : ℕ) (c : ℤ) → Rises terms → k < length terms → get_or terms k (j, c) ≡ (j, c) → coefficient terms j ≡ c
coefficient-term [] k j c rises within is = absurd (omega arith)
coefficient-term (t ∷ terms) zero j c rises within is =
    let at : t.0 ≡ j = ap (λ (p : ℕ × ℤ). p.0) is in
    let value : t.1 ≡ c = ap (λ (p : ℕ × ℤ). p.1) is in
    let here : cond (names j t) t.1 (pos 0) ≡ t.1 = ap (λ b. cond b t.1 (pos 0)) (eq-eqb t.0 j at) in
    let rest : coefficient terms j ≡ pos 0 = coefficient-none terms j (λ m d below same. let up : t.0 < (get_or terms m d).0 = Rises-head t terms rises m d below in absurd (omega arith)) in
    omega (arith, ints)
coefficient-term (t ∷ terms) (suc k) j c rises within is =
    let up : t.0 < (get_or terms k (j, c)).0 = Rises-head t terms rises k (j, c) (omega arith) in
    let at : (get_or terms k (j, c)).0 ≡ j = ap (λ (p : ℕ × ℤ). p.0) is in
    let here : cond (names j t) t.1 (pos 0) ≡ pos 0 = ap (λ b. cond b t.1 (pos 0)) (ne_eqb t.0 j (λ same. absurd (omega arith))) in
    let rest : coefficient terms j ≡ c = coefficient-term terms k j c (Rises-tail t terms rises) (omega arith) is in
    omega (arith, ints)

-- the same, of a term that is there
pub coefficient-contains : (terms : List (ℕ × ℤ)) (j : ℕ) (c : ℤ) → Rises terms → Contains terms (j, c) → coefficient terms j ≡ c
coefficient-contains terms j c rises (k, within, is) = coefficient-term terms k j c rises within is
