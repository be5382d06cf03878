-- Laws of lists joined end to end: a list more, empty parts, what the whole begins with, its length and its elements.
use Rattle.std.proofs.Common.{◌≡◌, inl, inr, ℕ, zero, suc, ◌+◌, ◌-◌, ◌<◌, List, [], ◌∷◌, ◌++◌, length, get_or, map, All, refl, ap, ◌∙◌, append_assoc, arith, add-one}
use Rattle.std.specs.List.{flat_map}
use Rattle.std.proofs.lemmas.Grind.{flat_map-append}
use Rattle.std.proofs.lemmas.List.{append-nil, get_or_append_left, get_or-append_right, length-append}
use Rattle.std.proofs.lemmas.Bool.{cases_eq, cases_lt}
use Rattle.std.proofs.lemmas.List.Elements.{All-append, All-nil}
use Rattle.listed.specs.Below.{join_below, sum_below}
use Rattle.listed.proofs.SumLaws.{sum_below-fewer, sum_below-suc}

-- none
pub join_below-zero : {X : Type 0} (f : ℕ → List X) → join_below 0 f ≡ []
unfolding join_below
join_below-zero f = refl

-- one list more
pub join_below-suc : {X : Type 0} (n : ℕ) (f : ℕ → List X) → join_below (n + 1) f ≡ join_below n f ++ f n
unfolding join_below
join_below-suc n f = rw add-one

-- one empty list more
pub join_below-more : {X : Type 0} (n : ℕ) (f : ℕ → List X) → join_below n f ≡ [] → f n ≡ [] → join_below (n + 1) f ≡ []
join_below-more n f before here = rw (join_below-suc n f, before, here)

-- where the lists before list k are empty, and that one is not, the whole begins as it does
pub join_below-begins : {X : Type 0} (n k : ℕ) (f : ℕ → List X) (x : X) (rest : List X) → k < n → join_below k f ≡ [] → f k ≡ x ∷ rest → (more : List X) × (join_below n f ≡ x ∷ more)
unfolding join_below
join_below-begins zero k f x rest within before here = absurd (omega arith)
join_below-begins (suc n) k f x rest within before here =
    elim (cases_eq k n) [
      | inl e ↦ (rest, rw (← e, before, here))
      | inr ne ↦
          let begun : (more : List _) × (join_below n f ≡ x ∷ more) = join_below-begins n k f x rest (omega arith) before here in
          (begun.0 ++ f n, rw begun.1)
    ]

-- an empty list of two parts has empty parts
pub append_none : {X : Type 0} (xs ys : List X) → xs ++ ys ≡ [] → (xs ≡ []) × (ys ≡ [])
append_none [] ys none = (refl, none)
append_none (x ∷ xs) ys none = absurd (cc)

-- an empty join has empty parts
pub join_none : {X : Type 0} (n : ℕ) (f : ℕ → List X) (k : ℕ) → join_below n f ≡ [] → k < n → f k ≡ []
unfolding join_below
join_none zero f k none within = absurd (omega arith)
join_none (suc n) f k none within =
    let parts = append_none (join_below n f) (f n) none in
    elim (cases_eq k n) [
      | inl e ↦ ap f e ∙ parts.1
      | inr ne ↦ join_none n f k parts.0 (omega arith)
    ]

-- a join of empty parts is empty
pub join_of_none : {X : Type 0} (n : ℕ) (f : ℕ → List X) → ((k : ℕ) → k < n → f k ≡ []) → join_below n f ≡ []
unfolding join_below
join_of_none zero f none = refl
join_of_none (suc n) f none = rw (join_of_none n f (λ k within. none k (omega arith)), none n (omega arith))

-- joins of equal parts are equal
pub join_below-same : {X : Type 0} (n : ℕ) (f g : ℕ → List X) → ((k : ℕ) → k < n → f k ≡ g k) → join_below n f ≡ join_below n g
unfolding join_below
join_below-same zero f g same = refl
join_below-same (suc n) f g same = rw (join_below-same n f g (λ k within. same k (omega arith)), same n (omega arith))

-- what a map makes is empty where the list is
pub map_none : {X Y : Type 0} (f : X → Y) (xs : List X) → map f xs ≡ [] → xs ≡ []
map_none f [] none = refl
map_none f (x ∷ xs) none = absurd (cc)

-- the first list stands before the others
pub join_below-cons : {X : Type 0} (n : ℕ) (f : ℕ → List X) → join_below (n + 1) f ≡ f 0 ++ join_below n (λ k. f (k + 1))
join_below-cons zero f = rw (join_below-suc 0 f, join_below-zero f, join_below-zero (λ k. f (k + 1)), append-nil (f 0))
join_below-cons (suc n) f = rw (← add-one n, join_below-suc (n + 1) f, join_below-cons n f, join_below-suc n (λ k. f (k + 1))) (append_assoc (f 0) (join_below n (λ k. f (k + 1))) (f (n + 1)))

-- what is made of each part of a join, joined, is made of the whole
pub flat_map-join_below : {X Y : Type 0} (h : X → List Y) (n : ℕ) (f : ℕ → List X) → flat_map h (join_below n f) ≡ join_below n (λ k. flat_map h (f k))
unfolding join_below
flat_map-join_below h zero f = refl
flat_map-join_below h (suc n) f = rw (flat_map-append h (join_below n f) (f n), flat_map-join_below h n f)

-- what holds of each element of each part holds of each of the whole
pub All-join_below : {X : Type 0} (P : X → Type 0) (n : ℕ) (f : ℕ → List X) → ((k : ℕ) → k < n → All P (f k)) → All P (join_below n f)
unfolding join_below
All-join_below P zero f each = All-nil P
All-join_below P (suc n) f each = All-append P (join_below n f) (f n) (All-join_below P n f (λ k within. each k (omega arith))) (each n (omega arith))

-- as many elements as all parts
pub length-join_below : {X : Type 0} (n : ℕ) (f : ℕ → List X) (count : ℕ → ℕ) → ((k : ℕ) → length (f k) ≡ count k) → length (join_below n f) ≡ sum_below n count
unfolding join_below sum_below
length-join_below zero f count long = refl
length-join_below (suc n) f count long =
    let before : length (join_below n f) ≡ sum_below n count = length-join_below n f count long in
    length-append (join_below n f) (f n) ∙ (omega (arith, long n))

-- element i of part k
pub get_or-join_below : {X : Type 0} (n : ℕ) (f : ℕ → List X) (count : ℕ → ℕ) (k i : ℕ) (d : X) → ((k : ℕ) → length (f k) ≡ count k) → k < n → i < count k →
    get_or (join_below n f) (sum_below k count + i) d ≡ get_or (f k) i d
unfolding join_below sum_below
get_or-join_below zero f count k i d long within inner = absurd (omega arith)
get_or-join_below (suc n) f count k i d long within inner =
    let total : length (join_below n f) ≡ sum_below n count = length-join_below n f count long in
    elim (cases_eq k n) [
      | inl e ↦
          rw e (get_or-append_right (join_below n f) (f n) (sum_below n count) (sum_below n count + i) d total (omega arith)
          ∙ ap (λ m. get_or (f n) m d) (omega arith))
      | inr ne ↦
          let below : sum_below k count + i < length (join_below n f) =
          omega (arith, sum_below-fewer (k + 1) n count (omega arith), sum_below-suc k count) in
          get_or_append_left (join_below n f) (f n) d (sum_below k count + i) below ∙ get_or-join_below n f count k i d long (omega arith) inner
    ]

-- a number below the sum lies in one of the parts
pub part_of : (n : ℕ) (count : ℕ → ℕ) (j : ℕ) → j < sum_below n count → (k : ℕ) × (i : ℕ) × (k < n) × (i < count k) × (j ≡ sum_below k count + i)
unfolding sum_below
part_of zero count j within = absurd (omega arith)
part_of (suc n) count j within =
    elim (cases_lt j (sum_below n count)) [
      | inl before ↦ let part = part_of n count j before in (part.0, part.1, omega (arith, part.2), part.3, part.4)
      | inr here ↦ (n, j - sum_below n count, omega arith, omega arith, omega arith)
    ]
