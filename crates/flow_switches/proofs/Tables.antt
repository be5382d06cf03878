-- Terms at columns that follow one another, with one coefficient: they rise, and what they weigh.
use Rattle.std.proofs.Common.{◌≡◌, ℕ, zero, suc, ◌+◌, ◌*◌, ◌<◌, List, [], ◌∷◌, ◌++◌, map, All, refl, ap, ◌∙◌, arith}
use Rattle.std.specs.Prelude.{ℤ, unsigned_abs}
use Rattle.std.proofs.lemmas.Bool.{lt-ltb}
use Rattle.std.proofs.lemmas.List.{map-append}
use Rattle.std.proofs.lemmas.List.Elements.{All-head, All-nil, All-push}
use Rattle.std.proofs.lemmas.List.Quantifiers.{all_pairs_push}
use Rattle.listed.specs.Below.{table_of}
use Rattle.sparse_program.specs.Terms.{Rises, inserted, rising, weight}
use Rattle.sparse_program.proofs.TermLaws.{Rises-head, Rises-tail}
use Rattle.flow_switches.proofs.Inserting.{weight-append}

-- a table of what a function makes of the elements
pub map-table_of : {X Y : Type 0} (f : X → Y) (n : ℕ) (g : ℕ → X) → map f (table_of n g) ≡ table_of n (λ k. f (g k))
unfolding table_of
map-table_of f zero g = refl
map-table_of {Y} f (suc n) g = map-append f (table_of n g) (g n ∷ []) ∙ ap (λ (ys : List Y). ys ++ f (g n) ∷ []) (map-table_of f n g)

-- what all elements of a table are
pub All-table_of : {X : Type 0} (P : X → Type 0) (n : ℕ) (g : ℕ → X) → ((k : ℕ) → k < n → P (g k)) → All P (table_of n g)
unfolding table_of
All-table_of P zero g each = All-nil P
All-table_of P (suc n) g each = All-push P (table_of n g) (g n) (All-table_of P n g (λ k below. each k (omega (arith, below)))) (each n (omega arith))

-- terms that rise are by rising column
pub rising-rises : (terms : List (ℕ × ℤ)) → Rises terms → rising terms ≡ terms
rising-rises [] rises = refl
rising-rises (term ∷ terms) rises =
    ap (λ (others : List (ℕ × ℤ)). inserted others term) (rising-rises terms (Rises-tail term terms rises)) ∙ in_front term terms (Rises-head term terms rises)
  where
    in_front : (term : ℕ × ℤ) (others : List (ℕ × ℤ)) → All (λ (other : ℕ × ℤ). term.0 < other.0) others → inserted others term ≡ term ∷ others
    in_front term [] below = refl
    in_front term (other ∷ others) below = rw (lt-ltb term.0 other.0 (All-head (λ (other : ℕ × ℤ). term.0 < other.0) other others below)) refl

-- columns that follow one another rise
pub Rises-table_of : (first n : ℕ) (z : ℤ) → Rises (table_of n (λ k. (first + k, z)))
unfolding table_of
Rises-table_of first zero z = λ i j d before within. absurd (omega (arith, before, within))
Rises-table_of first (suc n) z =
    all_pairs_push (λ (a b : ℕ × ℤ). a.0 < b.0) (table_of n (λ k. (first + k, z))) (first + n, z) (Rises-table_of first n z)
    (All-table_of (λ (other : ℕ × ℤ). other.0 < first + n) n (λ k. (first + k, z)) (λ k below. omega (arith, below)))

-- what they weigh
pub weight-table_of : (n : ℕ) (g : ℕ → ℕ) (z : ℤ) → weight (table_of n (λ k. (g k, z))) ≡ n * unsigned_abs z
unfolding table_of
weight-table_of zero g z = omega arith
weight-table_of (suc n) g z = omega (arith, weight-append (table_of n (λ k. (g k, z))) ((g n, z) ∷ []), weight-table_of n g z)
