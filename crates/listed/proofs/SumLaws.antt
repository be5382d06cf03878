-- Laws of sums over the numbers below a count: a term more, sums of sums, order.
use Rattle.std.proofs.Common.{◌≡◌, ◌≢◌, ◌⊎◌, inl, inr, ℕ, zero, suc, ◌+◌, ◌*◌, ◌<◌, ◌≤◌, refl, ap, ◌∙◌, sym, arith, add-one}
use Rattle.std.proofs.lemmas.Bool.{cases_eq}
use Rattle.listed.specs.Below.{sum_below}

-- no term
pub sum_below-zero : (f : ℕ → ℕ) → sum_below 0 f ≡ 0
unfolding sum_below
sum_below-zero f = refl

-- one term more
pub sum_below-suc : (n : ℕ) (f : ℕ → ℕ) → sum_below (n + 1) f ≡ sum_below n f + f n
unfolding sum_below
sum_below-suc n f = rw add-one

-- equal terms have equal sums
pub sum_below-same : (n : ℕ) (f g : ℕ → ℕ) → ((k : ℕ) → k < n → f k ≡ g k) → sum_below n f ≡ sum_below n g
unfolding sum_below
sum_below-same zero f g same = refl
sum_below-same (suc n) f g same =
    let before : sum_below n f ≡ sum_below n g = sum_below-same n f g (λ k h. same k (omega arith)) in
    let here : f n ≡ g n = same n (omega arith) in
    cc

-- smaller terms have a smaller sum
pub sum_below-le : (n : ℕ) (f g : ℕ → ℕ) → ((k : ℕ) → k < n → f k ≤ g k) → sum_below n f ≤ sum_below n g
unfolding sum_below
sum_below-le zero f g le = omega arith
sum_below-le (suc n) f g le =
    let before : sum_below n f ≤ sum_below n g = sum_below-le n f g (λ k h. le k (omega arith)) in
    let here : f n ≤ g n = le n (omega arith) in
    omega arith

-- the sum of sums is the sum of the two sums
pub sum_below-add : (n : ℕ) (f g : ℕ → ℕ) → sum_below n (λ k. f k + g k) ≡ sum_below n f + sum_below n g
unfolding sum_below
sum_below-add zero f g = refl
sum_below-add (suc n) f g = let before : sum_below n (λ k. f k + g k) ≡ sum_below n f + sum_below n g = sum_below-add n f g in omega arith

-- a common factor
pub sum_below-mul : (n c : ℕ) (f : ℕ → ℕ) → sum_below n (λ k. c * f k) ≡ c * sum_below n f
unfolding sum_below
sum_below-mul zero c f = omega arith
sum_below-mul (suc n) c f = let before : sum_below n (λ k. c * f k) ≡ c * sum_below n f = sum_below-mul n c f in omega arith

-- a common factor on the right
pub sum_below-mul_right : (n c : ℕ) (f : ℕ → ℕ) → sum_below n (λ k. f k * c) ≡ sum_below n f * c
unfolding sum_below
sum_below-mul_right zero c f = omega arith
sum_below-mul_right (suc n) c f = let before : sum_below n (λ k. f k * c) ≡ sum_below n f * c = sum_below-mul_right n c f in omega arith

-- terms that are all 0
pub sum_below-none : (n : ℕ) (f : ℕ → ℕ) → ((k : ℕ) → k < n → f k ≡ 0) → sum_below n f ≡ 0
unfolding sum_below
sum_below-none zero f none = refl
sum_below-none (suc n) f none =
    let before : sum_below n f ≡ 0 = sum_below-none n f (λ k h. none k (omega arith)) in
    let here : f n ≡ 0 = none n (omega arith) in
    omega arith

-- all terms but one are 0
pub sum_below-only : (n i : ℕ) (f : ℕ → ℕ) → i < n → ((k : ℕ) → k < n → k ≢ i → f k ≡ 0) → sum_below n f ≡ f i
unfolding sum_below
sum_below-only zero i f within none = absurd (omega arith)
sum_below-only (suc n) i f within none =
    elim (cases_eq n i) [
      | inl e ↦
          let before : sum_below n f ≡ 0 = sum_below-none n f (λ k h. none k (omega arith) (omega arith)) in
          rw (before, e) (omega arith)
      | inr ne ↦
          let before : sum_below n f ≡ f i = sum_below-only n i f (omega arith) (λ k h. none k (omega arith)) in
          let here : f n ≡ 0 = none n (omega arith) ne in
          omega arith
    ]

-- each term is within the sum
pub sum_below-term : (n i : ℕ) (f : ℕ → ℕ) → i < n → f i ≤ sum_below n f
unfolding sum_below
sum_below-term zero i f within = absurd (omega arith)
sum_below-term (suc n) i f within =
    elim (cases_eq n i) [
      | inl e ↦ rw e (omega arith)
      | inr ne ↦ let before : f i ≤ sum_below n f = sum_below-term n i f (omega arith) in omega arith
    ]

-- at most so many times the largest term
pub sum_below-bound : (n m : ℕ) (f : ℕ → ℕ) → ((k : ℕ) → k < n → f k ≤ m) → sum_below n f ≤ n * m
unfolding sum_below
sum_below-bound zero m f le = omega arith
sum_below-bound (suc n) m f le =
    let before : sum_below n f ≤ n * m = sum_below-bound n m f (λ k h. le k (omega arith)) in
    let here : f n ≤ m = le n (omega arith) in
    omega arith

-- fewer terms have a smaller sum
pub sum_below-fewer : (m n : ℕ) (f : ℕ → ℕ) → m ≤ n → sum_below m f ≤ sum_below n f
unfolding sum_below
sum_below-fewer m zero f le = let e : m ≡ 0 = omega arith in rw e (omega arith)
sum_below-fewer m (suc n) f le =
    elim (cases_eq m (suc n)) [
      | inl e ↦ rw e (omega arith)
      | inr ne ↦ let before : sum_below m f ≤ sum_below n f = sum_below-fewer m n f (omega arith) in omega arith
    ]

-- a sum of sums in the other order
pub sum_below-swap : (n m : ℕ) (f : ℕ → ℕ → ℕ) → sum_below n (λ i. sum_below m (λ j. f i j)) ≡ sum_below m (λ j. sum_below n (λ i. f i j))
unfolding sum_below
sum_below-swap zero m f = sym (sum_below-none m (λ j. 0) (λ k h. refl))
sum_below-swap (suc n) m f = ap (λ s. s + sum_below m (f n)) (sum_below-swap n m f) ∙ sym (sum_below-add m (λ j. sum_below n (λ i. f i j)) (f n))

-- a sum with at most one term above 0 is at most what bounds each term
pub sum_below-at_most_one : (n m : ℕ) (f : ℕ → ℕ) →
    ((i k : ℕ) → i < n → k < n → i ≢ k → (f i ≡ 0) ⊎ (f k ≡ 0)) → ((k : ℕ) → k < n → f k ≤ m) → sum_below n f ≤ m
unfolding sum_below
sum_below-at_most_one zero m f one le = omega arith
sum_below-at_most_one (suc n) m f one le =
    let here : f n ≤ m = le n (omega arith) in
    elim (cases_eq (f n) 0) [
      | inl e ↦
          let before : sum_below n f ≤ m = sum_below-at_most_one n m f (λ i k h l. one i k (omega arith) (omega arith)) (λ k h. le k (omega arith)) in
          omega arith
      | inr some ↦
          let before : sum_below n f ≡ 0 =
          sum_below-none n f (λ k h. elim (one k n (omega arith) (omega arith) (omega arith)) [ inl none ↦ none | inr none ↦ absurd (some none) ]) in
          omega arith
    ]
