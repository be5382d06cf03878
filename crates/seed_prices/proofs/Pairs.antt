-- Two lists element by element: rows and their prices.
use Rattle.std.proofs.Common.{◌≡◌, ℕ, zero, suc, ◌<◌, List, [], ◌∷◌, ◌++◌, length, get_or, refl, ap, arith}
use Rattle.listed.specs.Below.{join_below}

-- a fact of each pair, and as many elements of one list as of the other
abbrev pub EachPair : {X Y : Type 0} → (X → Y → Type 0) → List X → List Y → Type 0
EachPair P [] [] = Unit {0}
EachPair P [] (y ∷ ys) = ⊥
EachPair P (x ∷ xs) [] = ⊥
EachPair P (x ∷ xs) (y ∷ ys) = P x y × EachPair P xs ys

-- the lists are equally long
pub EachPair-length : {X Y : Type 0} (P : X → Y → Type 0) (xs : List X) (ys : List Y) → EachPair P xs ys → length ys ≡ length xs
EachPair-length P [] [] each = refl
EachPair-length P [] (y ∷ ys) each = absurd each
EachPair-length P (x ∷ xs) [] each = absurd each
EachPair-length P (x ∷ xs) (y ∷ ys) each = ap suc (EachPair-length P xs ys each.1)

-- of lists together
pub EachPair-append : {X Y : Type 0} (P : X → Y → Type 0) (xs more : List X) (ys others : List Y) → EachPair P xs ys → EachPair P more others → EachPair P (xs ++ more) (ys ++ others)
EachPair-append P [] more [] others each rest = rest
EachPair-append P [] more (y ∷ ys) others each rest = absurd each
EachPair-append P (x ∷ xs) more [] others each rest = absurd each
EachPair-append P (x ∷ xs) more (y ∷ ys) others each rest = (each.0, EachPair-append P xs more ys others each.1 rest)

-- of joins
pub EachPair-join_below : {X Y : Type 0} (P : X → Y → Type 0) (n : ℕ) (f : ℕ → List X) (g : ℕ → List Y) → ((k : ℕ) → k < n → EachPair P (f k) (g k)) → EachPair P (join_below n f) (join_below n g)
unfolding join_below
EachPair-join_below P zero f g each = tt
EachPair-join_below P (suc n) f g each =
    EachPair-append P (join_below n f) (f n) (join_below n g) (g n) (EachPair-join_below P n f g (λ k inside. each k (omega (arith, inside)))) (each n (omega arith))

-- at a place
pub EachPair-at : {X Y : Type 0} (P : X → Y → Type 0) (xs : List X) (ys : List Y) (i : ℕ) (d : X) (e : Y) → EachPair P xs ys → i < length xs → P (get_or xs i d) (get_or ys i e)
EachPair-at P [] ys i d e each inside = absurd (omega (arith, inside))
EachPair-at P (x ∷ xs) [] i d e each inside = absurd each
EachPair-at P (x ∷ xs) (y ∷ ys) zero d e each inside = each.0
EachPair-at P (x ∷ xs) (y ∷ ys) (suc i) d e each inside = EachPair-at P xs ys i d e each.1 (omega (arith, inside))
