-- Lists of faults, of which the first decides (docs/network-file.md, "Refusals").
use Rattle.std.specs.Prelude.{ℕ, ◌+◌, Bool, if◌then◌else◌, List, [], ◌∷◌, ◌++◌, Result, Ok, Err}

-- the fault, where a test holds
abbrev pub where_so : {E : Type 0} → Bool → E → List E
where_so holds fault = if holds then fault ∷ [] else []

-- the faults of the items of a list whose first item has number k
abbrev pub items_from : {X E : Type 0} → ℕ → List X → (ℕ → X → List E) → List E
items_from k [] faults = []
items_from k (x ∷ xs) faults = faults k x ++ items_from (k + 1) xs faults

-- the faults of each item of a list, by its number and in its order
abbrev pub per_item : {X E : Type 0} → List X → (ℕ → X → List E) → List E
per_item xs faults = items_from 0 xs faults

-- what is made where there is no fault, or the first of the faults
abbrev pub unless : {X E : Type 0} → List E → X → Result X E
unless [] made = Ok made
unless (first ∷ faults) made = Err first
