-- Walks over the tables of an array, with numbers that 32 bits hold.
use Rattle.std.specs.Prelude.{ℕ, ◌+◌, List, [], ◌∷◌, ◌++◌}
use Rattle.std.specs.Option.{option_map_or}
use Rattle.toml.specs.Data.{Data, array, as_table, Items, no_items, Members, get_member}
use Rattle.network_file.specs.Refusals.{number}

-- the items of an array; a value that is no array has none
abbrev pub items_in : Data → Items
items_in (array ds) = ds
items_in _ = no_items

-- the items of the array at a key
abbrev pub items_at : List ℕ → Members → Items
items_at key ms = option_map_or items_in (get_member key ms) no_items

-- what f says of each table, numbered from k on
abbrev pub each_from : {X : Type 0} → ℕ → (ℕ → Members → List X) → List Members → List X
each_from k f [] = []
each_from k f (ms ∷ rest) = f k ms ++ each_from (number (k + 1)) f rest

-- what f says of each table, numbered from k on, and of those before it
abbrev pub each_after : {X : Type 0} → ℕ → (ℕ → List Members → Members → List X) → List Members → List Members → List X
each_after k f earlier [] = []
each_after k f earlier (ms ∷ rest) = f k earlier ms ++ each_after (number (k + 1)) f (earlier ++ ms ∷ []) rest

-- what f says of a value that is table k; a value that is no table has no number
abbrev pub if_table : {X : Type 0} → ℕ → (ℕ → Members → List X) → Data → List X
if_table k f d = option_map_or (f k) (as_table d) []

-- the number of the next table after a value
abbrev pub next_number : ℕ → Data → ℕ
next_number k d = option_map_or (λ (ms : Members). number (k + 1)) (as_table d) k
