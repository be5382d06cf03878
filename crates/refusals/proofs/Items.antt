-- The faults of the items of a list. A walk over the items keeps that the faults of those that are left are the faults
-- of all: `per_item xs faults ≡ items_from k (drop k xs) faults`. That needs no lemma.
use Rattle.std.proofs.Common.{◌≡◌, ℕ, zero, suc, ◌+◌, ◌<◌, List, [], ◌∷◌, ◌++◌, get_or, length, map, refl, ap, arith}
use Rattle.listed.proofs.JoinLaws.{append_none}
use Rattle.refusals.specs.Faults.{items_from, per_item}

-- an item has no fault where there is none
items_none : {X E : Type 0} (k : ℕ) (xs : List X) (faults : ℕ → X → List E) (j : ℕ) (d : X) → items_from k xs faults ≡ [] → j < length xs → faults (k + j) (get_or xs j d) ≡ []
items_none k [] faults j d none within = absurd (omega arith)
items_none k (x ∷ xs) faults zero d none within = let n : k + 0 ≡ k = omega arith in rw n (append_none (faults k x) (items_from (k + 1) xs faults) none).0
items_none k (x ∷ xs) faults (suc j) d none within =
    let n : k + suc j ≡ (k + 1) + j = omega arith in
    rw n (items_none (k + 1) xs faults j d (append_none (faults k x) (items_from (k + 1) xs faults) none).1 (omega arith))

-- the same from the first item on
pub per_item_none : {X E : Type 0} (xs : List X) (faults : ℕ → X → List E) (j : ℕ) (d : X) → per_item xs faults ≡ [] → j < length xs → faults j (get_or xs j d) ≡ []
per_item_none xs faults j d none within =
    let n : 0 + j ≡ j = omega arith in
    rw n at (items_none 0 xs faults j d none within)

-- equal faults of each item
pub items_from-same : {X E : Type 0} (k : ℕ) (xs : List X) (faults others : ℕ → X → List E) → ((j : ℕ) (x : X) → faults j x ≡ others j x) → items_from k xs faults ≡ items_from k xs others
items_from-same k [] faults others same = refl
items_from-same k (x ∷ xs) faults others same = rw (same k x, items_from-same (k + 1) xs faults others same)

-- the faults of what is made of each item
pub items_from-map : {X Y E : Type 0} (k : ℕ) (xs : List X) (make : X → Y) (faults : ℕ → Y → List E) → items_from k (map make xs) faults ≡ items_from k xs (λ j x. faults j (make x))
items_from-map k [] make faults = refl
items_from-map k (x ∷ xs) make faults = ap (λ after. faults k (make x) ++ after) (items_from-map (k + 1) xs make faults)

-- where each item has the faults of two rules, and there is none, the first rule has none
pub items_from-first : {X E : Type 0} (k : ℕ) (xs : List X) (faults others : ℕ → X → List E) → items_from k xs (λ j x. faults j x ++ others j x) ≡ [] → items_from k xs faults ≡ []
items_from-first k [] faults others none = refl
items_from-first k (x ∷ xs) faults others none =
    let parts = append_none (faults k x ++ others k x) (items_from (k + 1) xs (λ j x. faults j x ++ others j x)) none in
    let here = append_none (faults k x) (others k x) parts.0 in
    rw (here.0, items_from-first (k + 1) xs faults others parts.1)

-- where no item has a fault there is none
items_of_none : {X E : Type 0} (k : ℕ) (xs : List X) (faults : ℕ → X → List E) → ((j : ℕ) (d : X) → j < length xs → faults (k + j) (get_or xs j d) ≡ []) → items_from k xs faults ≡ []
items_of_none k [] faults each = refl
items_of_none k (x ∷ xs) faults each =
    let first : k + 0 ≡ k = omega arith in
    let here : faults k x ≡ [] = rw first at (each 0 x (omega arith)) in
    rw (here, items_of_none (k + 1) xs faults (λ j d within. let n : (k + 1) + j ≡ k + suc j = omega arith in rw n (each (suc j) d (omega arith))))

pub per_item_of_none : {X E : Type 0} (xs : List X) (faults : ℕ → X → List E) → ((j : ℕ) (d : X) → j < length xs → faults j (get_or xs j d) ≡ []) → per_item xs faults ≡ []
per_item_of_none xs faults each = items_of_none 0 xs faults (λ j d within. let n : 0 + j ≡ j = omega arith in rw n (each j d within))
