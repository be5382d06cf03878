-- What prices pay for rows beyond their right sides: of lists together, of joins, by places, and of rows without a price.
use Rattle.std.proofs.Common.{◌≡◌, ℕ, zero, suc, ◌<◌, List, [], ◌∷◌, ◌++◌, length, get_or, refl, ap, ◌∙◌, sym, arith}
use Rattle.std.specs.Prelude.{ℤ, pos, ◌+ℤ◌, ◌-ℤ◌, ◌*ℤ◌}
use Rattle.std.proofs.Math.IntN.{zero-*ℤ}
use Rattle.std.proofs.lemmas.Int.{ints}
use Rattle.std.proofs.lemmas.List.{length-append}
use Rattle.listed.specs.Below.{join_below, whole_sum_below}
use Rattle.program_model.specs.Rows.{SumRow, sum_at}
use Rattle.safe_bound.specs.Prices.{price_at}
use Rattle.seed_prices.specs.Seed.{unpriced}

-- what a row comes to beyond its right side
abbrev pub excess : {C : Type 0} → (C → ℤ) → SumRow C → ℤ
excess value row = sum_at value row.sum -ℤ row.rhs

-- what prices pay for that, row by row
abbrev pub paid : {C : Type 0} → (C → ℤ) → List (SumRow C) → List ℤ → ℤ
paid value [] prices = pos 0
paid value (row ∷ rows) [] = pos 0
paid value (row ∷ rows) (price ∷ prices) = price *ℤ excess value row +ℤ paid value rows prices

-- nothing without a price
pub paid-unpriced : {C X : Type 0} (value : C → ℤ) (rows : List (SumRow C)) (xs : List X) → paid value rows (unpriced xs) ≡ pos 0
paid-unpriced value [] xs = refl
paid-unpriced value (row ∷ rows) [] = refl
paid-unpriced value (row ∷ rows) (x ∷ xs) = omega (arith, ints, zero-*ℤ (excess value row), paid-unpriced value rows xs)

-- of two lists together
pub paid-append : {C : Type 0} (value : C → ℤ) (rows more : List (SumRow C)) (prices others : List ℤ) → length prices ≡ length rows →
    paid value (rows ++ more) (prices ++ others) ≡ paid value rows prices +ℤ paid value more others
paid-append value [] more [] others long = omega (arith, ints)
paid-append value [] more (price ∷ prices) others long = absurd (omega (arith, long))
paid-append value (row ∷ rows) more [] others long = absurd (omega (arith, long))
paid-append value (row ∷ rows) more (price ∷ prices) others long =
    let rest : paid value (rows ++ more) (prices ++ others) ≡ paid value rows prices +ℤ paid value more others = paid-append value rows more prices others (omega (arith, long)) in
    omega (arith, ints, rest)

-- as many elements in joins of equally long parts
pub length-joins : {X Y : Type 0} (n : ℕ) (f : ℕ → List X) (g : ℕ → List Y) → ((k : ℕ) → k < n → length (f k) ≡ length (g k)) → length (join_below n f) ≡ length (join_below n g)
unfolding join_below
length-joins zero f g same = refl
length-joins (suc n) f g same =
    length-append (join_below n f) (f n) ∙ (omega (arith, length-joins n f g (λ k inside. same k (omega (arith, inside))), same n (omega arith))) ∙ sym (length-append (join_below n g) (g n))

-- of joins
pub paid-join_below : {C : Type 0} (value : C → ℤ) (n : ℕ) (rows : ℕ → List (SumRow C)) (prices : ℕ → List ℤ) → ((k : ℕ) → k < n → length (prices k) ≡ length (rows k)) →
    paid value (join_below n rows) (join_below n prices) ≡ whole_sum_below n (λ k. paid value (rows k) (prices k))
unfolding join_below whole_sum_below
paid-join_below value zero rows prices long = refl
paid-join_below value (suc n) rows prices long =
    paid-append value (join_below n rows) (rows n) (join_below n prices) (prices n) (length-joins n prices rows (λ k inside. long k (omega (arith, inside))))
    ∙ ap (λ (z : ℤ). z +ℤ paid value (rows n) (prices n)) (paid-join_below value n rows prices (λ k inside. long k (omega (arith, inside))))

-- the first term of a sum, and the others
pub first_term : (n : ℕ) (g : ℕ → ℤ) → whole_sum_below (suc n) g ≡ g 0 +ℤ whole_sum_below n (λ k. g (suc k))
unfolding whole_sum_below
first_term zero g = omega (arith, ints)
first_term (suc n) g = omega (arith, ints, first_term n g)

-- by places
pub paid-places : {C : Type 0} (value : C → ℤ) (rows : List (SumRow C)) (prices : List ℤ) (d : SumRow C) → length prices ≡ length rows →
    whole_sum_below (length rows) (λ i. price_at prices i *ℤ excess value (get_or rows i d)) ≡ paid value rows prices
unfolding whole_sum_below
paid-places value [] prices d long = refl
paid-places value (row ∷ rows) [] d long = absurd (omega (arith, long))
paid-places value (row ∷ rows) (price ∷ prices) d long =
    first_term (length rows) (λ i. price_at (price ∷ prices) i *ℤ excess value (get_or (row ∷ rows) i d))
    ∙ ap (λ (z : ℤ). price *ℤ excess value row +ℤ z) (paid-places value rows prices d (omega (arith, long)))
