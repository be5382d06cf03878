-- Laws of sums of whole numbers over the numbers below a count: a term more, sums of sums, a common factor, order.
use Rattle.std.proofs.Common.{◌≡◌, ◌≢◌, inl, inr, ℕ, zero, suc, ◌+◌, ◌*◌, ◌<◌, refl, ap, ◌∙◌, sym, arith, add-one}
use Rattle.std.specs.Prelude.{ℤ, pos, ◌+ℤ◌, ◌-ℤ◌, ◌*ℤ◌, ◌≤ℤ◌}
use Rattle.std.proofs.lemmas.Int.{ints}
use Rattle.std.proofs.lemmas.Bool.{cases_eq}
use borrow.Author.Differences.{up, down, sum_is_lem}
use Rattle.listed.specs.Below.{sum_below, whole_sum_below}

-- no term
pub whole_sum_below-zero : (f : ℕ → ℤ) → whole_sum_below 0 f ≡ pos 0
unfolding whole_sum_below
whole_sum_below-zero f = refl

-- one term more
pub whole_sum_below-suc : (n : ℕ) (f : ℕ → ℤ) → whole_sum_below (n + 1) f ≡ whole_sum_below n f +ℤ f n
unfolding whole_sum_below
whole_sum_below-suc n f = rw add-one

-- equal terms have equal sums
pub whole_sum_below-same : (n : ℕ) (f g : ℕ → ℤ) → ((k : ℕ) → k < n → f k ≡ g k) → whole_sum_below n f ≡ whole_sum_below n g
unfolding whole_sum_below
whole_sum_below-same zero f g same = refl
whole_sum_below-same (suc n) f g same =
    let before : whole_sum_below n f ≡ whole_sum_below n g = whole_sum_below-same n f g (λ k h. same k (omega arith)) in
    let here : f n ≡ g n = same n (omega arith) in
    cc

-- a sum of natural numbers is a whole one
pub whole_sum_below-pos : (n : ℕ) (f : ℕ → ℕ) → whole_sum_below n (λ k. pos (f k)) ≡ pos (sum_below n f)
unfolding whole_sum_below sum_below
whole_sum_below-pos zero f = refl
whole_sum_below-pos (suc n) f = rw (whole_sum_below-pos n f)

-- the sum of sums is the sum of the two sums
pub whole_sum_below-add : (n : ℕ) (f g : ℕ → ℤ) → whole_sum_below n (λ k. f k +ℤ g k) ≡ whole_sum_below n f +ℤ whole_sum_below n g
unfolding whole_sum_below
whole_sum_below-add zero f g = refl
whole_sum_below-add (suc n) f g =
    let before : whole_sum_below n (λ k. f k +ℤ g k) ≡ whole_sum_below n f +ℤ whole_sum_below n g = whole_sum_below-add n f g in
    omega (arith, ints)

-- the sum of differences is the difference of the two sums
pub whole_sum_below-sub : (n : ℕ) (f g : ℕ → ℤ) → whole_sum_below n (λ k. f k -ℤ g k) ≡ whole_sum_below n f -ℤ whole_sum_below n g
unfolding whole_sum_below
whole_sum_below-sub zero f g = refl
whole_sum_below-sub (suc n) f g =
    let before : whole_sum_below n (λ k. f k -ℤ g k) ≡ whole_sum_below n f -ℤ whole_sum_below n g = whole_sum_below-sub n f g in
    omega (arith, ints)

-- a factor of a sum
pub times_sum : (c a b : ℤ) → c *ℤ (a +ℤ b) ≡ c *ℤ a +ℤ c *ℤ b
times_sum c a b =
    let ups : up c * (up (a +ℤ b) + down a + down b) ≡ up c * (down (a +ℤ b) + up a + up b) = ap (λ n. up c * n) (sum_is_lem a b) in
    let downs : down c * (up (a +ℤ b) + down a + down b) ≡ down c * (down (a +ℤ b) + up a + up b) = ap (λ n. down c * n) (sum_is_lem a b) in
    omega (arith, ints, ups, downs)

-- a common factor
pub whole_sum_below-mul : (n : ℕ) (c : ℤ) (f : ℕ → ℤ) → whole_sum_below n (λ k. c *ℤ f k) ≡ c *ℤ whole_sum_below n f
unfolding whole_sum_below
whole_sum_below-mul zero c f = omega (arith, ints)
whole_sum_below-mul (suc n) c f = ap (λ s. s +ℤ c *ℤ f n) (whole_sum_below-mul n c f) ∙ sym (times_sum c (whole_sum_below n f) (f n))

-- terms that are all 0
pub whole_sum_below-none : (n : ℕ) (f : ℕ → ℤ) → ((k : ℕ) → k < n → f k ≡ pos 0) → whole_sum_below n f ≡ pos 0
unfolding whole_sum_below
whole_sum_below-none zero f none = refl
whole_sum_below-none (suc n) f none =
    let before : whole_sum_below n f ≡ pos 0 = whole_sum_below-none n f (λ k h. none k (omega arith)) in
    let here : f n ≡ pos 0 = none n (omega arith) in
    omega (arith, ints)

-- all terms but one are 0
pub whole_sum_below-only : (n i : ℕ) (f : ℕ → ℤ) → i < n → ((k : ℕ) → k < n → k ≢ i → f k ≡ pos 0) → whole_sum_below n f ≡ f i
unfolding whole_sum_below
whole_sum_below-only zero i f within none = absurd (omega arith)
whole_sum_below-only (suc n) i f within none =
    elim (cases_eq n i) [
      | inl e ↦
          let before : whole_sum_below n f ≡ pos 0 = whole_sum_below-none n f (λ k h. none k (omega arith) (omega arith)) in
          rw (before, e) (omega (arith, ints))
      | inr ne ↦
          let before : whole_sum_below n f ≡ f i = whole_sum_below-only n i f (omega arith) (λ k h. none k (omega arith)) in
          let here : f n ≡ pos 0 = none n (omega arith) ne in
          omega (arith, ints)
    ]

-- smaller terms have a smaller sum
pub whole_sum_below-le : (n : ℕ) (f g : ℕ → ℤ) → ((k : ℕ) → k < n → f k ≤ℤ g k) → whole_sum_below n f ≤ℤ whole_sum_below n g
unfolding whole_sum_below
whole_sum_below-le zero f g le = omega (arith, ints)
whole_sum_below-le (suc n) f g le =
    let before : whole_sum_below n f ≤ℤ whole_sum_below n g = whole_sum_below-le n f g (λ k h. le k (omega arith)) in
    let here : f n ≤ℤ g n = le n (omega arith) in
    omega (arith, ints)

-- a sum of sums in the other order
pub whole_sum_below-swap : (n m : ℕ) (f : ℕ → ℕ → ℤ) →
    whole_sum_below n (λ i. whole_sum_below m (λ j. f i j)) ≡ whole_sum_below m (λ j. whole_sum_below n (λ i. f i j))
unfolding whole_sum_below
whole_sum_below-swap zero m f = sym (whole_sum_below-none m (λ j. pos 0) (λ k h. refl))
whole_sum_below-swap (suc n) m f =
    ap (λ s. s +ℤ whole_sum_below m (f n)) (whole_sum_below-swap n m f) ∙ sym (whole_sum_below-add m (λ j. whole_sum_below n (λ i. f i j)) (f n))
