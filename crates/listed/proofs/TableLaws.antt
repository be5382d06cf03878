-- Laws of tables over the numbers below a count: an element more, the elements, a list as a table, the sum of a table.
use Rattle.std.proofs.Common.{◌≡◌, inl, inr, ℕ, zero, suc, ◌+◌, ◌<◌, List, [], ◌∷◌, ◌++◌, length, get_or, sum, slice_index, refl, ap, ◌∙◌, sym, arith, add-one, ext_get_or}
use Rattle.std.proofs.lemmas.Bool.{cases_eq}
use Rattle.std.proofs.lemmas.List.{get_or_append_left, get_or_at, length_push}
use Rattle.std.proofs.lemmas.List.Sums.{sum_by_push}
use Rattle.listed.specs.Below.{sum_below, table_of}

-- no element
pub table_of-zero : {X : Type 0} (f : ℕ → X) → table_of 0 f ≡ []
unfolding table_of
table_of-zero f = refl

-- one element more
pub table_of-suc : {X : Type 0} (n : ℕ) (f : ℕ → X) → table_of (n + 1) f ≡ table_of n f ++ f n ∷ []
unfolding table_of
table_of-suc n f = rw add-one

-- a table has as many elements as its count
pub length-table_of : {X : Type 0} (n : ℕ) (f : ℕ → X) → length (table_of n f) ≡ n
unfolding table_of
length-table_of zero f = refl
length-table_of (suc n) f = length_push (table_of n f) (f n) ∙ ap (λ k. k + 1) (length-table_of n f) ∙ (omega arith)

-- the elements of a table, at any default
pub get_or-table_of : {X : Type 0} (n : ℕ) (f : ℕ → X) (i : ℕ) (d : X) → i < n → get_or (table_of n f) i d ≡ f i
unfolding table_of
get_or-table_of zero f i d within = absurd (omega arith)
get_or-table_of (suc n) f i d within =
    elim (cases_eq i n) [
      | inl e ↦ get_or_at (table_of n f) (f n) [] d i (length-table_of n f ∙ sym e) ∙ ap f (sym e)
      | inr ne ↦
          let below : i < n = omega arith in
          get_or_append_left (table_of n f) (f n ∷ []) d i (rw length-table_of below) ∙ get_or-table_of n f i d below
    ]

-- the numbers of a table
pub slice_index-table_of : (n : ℕ) (f : ℕ → ℕ) (i : ℕ) → i < n → slice_index (table_of n f) i ≡ f i
slice_index-table_of n f i within = get_or-table_of n f i 0 within

-- tables of equal elements
pub table_of-same : {X : Type 0} (n : ℕ) (f g : ℕ → X) → ((k : ℕ) → k < n → f k ≡ g k) → table_of n f ≡ table_of n g
unfolding table_of
table_of-same zero f g same = refl
table_of-same (suc n) f g same =
    let before : table_of n f ≡ table_of n g = table_of-same n f g (λ k h. same k (omega arith)) in
    let here : f n ≡ g n = same n (omega arith) in
    cc

-- a list is the table of its elements
pub fill_elements : {X : Type 0} (xs : List X) (n : ℕ) (f : ℕ → X) (d : X) → length xs ≡ n → ((k : ℕ) → k < n → get_or xs k d ≡ f k) → xs ≡ table_of n f
fill_elements xs n f d long same =
    ext_get_or d xs (table_of n f) (long ∙ sym (length-table_of n f)) (λ k h. let below : k < n = omega arith in same k below ∙ sym (get_or-table_of n f k d below))

-- a list of numbers is the table of its numbers
pub fill : (xs : List ℕ) (n : ℕ) (f : ℕ → ℕ) → length xs ≡ n → ((k : ℕ) → k < n → slice_index xs k ≡ f k) → xs ≡ table_of n f
fill xs n f long same = fill_elements xs n f 0 long same

-- the sum of a table
pub sum-table_of : (n : ℕ) (f : ℕ → ℕ) → sum (table_of n f) ≡ sum_below n f
unfolding table_of sum_below
sum-table_of zero f = refl
sum-table_of (suc n) f = sum_by_push (λ x. x) (table_of n f) (f n) ∙ ap (λ s. s + f n) (sum-table_of n f)

-- the sum of a list, by its elements
pub sum_by_index : (xs : List ℕ) → sum xs ≡ sum_below (length xs) (slice_index xs)
sum_by_index xs = ap sum (fill xs (length xs) (slice_index xs) refl (λ k h. refl)) ∙ sum-table_of (length xs) (slice_index xs)

-- the same where the length has another name
pub sum_by_index-long : (xs : List ℕ) (n : ℕ) → length xs ≡ n → sum xs ≡ sum_below n (λ i. slice_index xs i)
sum_by_index-long xs n long = sum_by_index xs ∙ ap (λ m. sum_below m (slice_index xs)) long
