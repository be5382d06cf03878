-- Values of a TOML document by their types (docs/network-file.md, "Types"), and what stands at the keys of a table.
use Rattle.std.specs.Prelude.{ℕ, ◌+◌, pos, min, Bool, true, false, ◌&&◌, List, [], ◌∷◌, Option, Some, None}
use Rattle.std.specs.Option.{option_map_or}
use Rattle.toml.specs.Data.{Data, string, integer, array, table, Items, no_items, item, Members, get_member}

-- a whole number, a text, a table
abbrev pub is_whole : Data → Bool
is_whole (integer z) = true
is_whole _ = false

-- the value is a text
abbrev pub is_text : Data → Bool
is_text (string text) = true
is_text _ = false

-- the value is a table
abbrev pub is_table : Data → Bool
is_table (table ms) = true
is_table _ = false

-- each item passes
abbrev pub all_items : (Data → Bool) → Items → Bool
all_items passes no_items = true
all_items passes (item d ds) = passes d && all_items passes ds

-- an array whose items all pass; an empty one is an array of every type
abbrev pub is_array_of : (Data → Bool) → Data → Bool
is_array_of passes (array ds) = all_items passes ds
is_array_of passes _ = false

-- how many items there are
abbrev pub count_of : Items → ℕ
count_of no_items = 0
count_of (item d ds) = 1 + count_of ds

-- a whole number as 32 bits hold it; what is none of these is 0
abbrev pub number_of : Data → ℕ
number_of (integer (pos n)) = min n 4294967295
number_of _ = 0

-- the characters of a text
abbrev pub text_of : Data → List ℕ
text_of (string text) = text
text_of _ = []

-- each item, as f sees it
abbrev pub each_item : {X : Type 0} → (Data → X) → Items → List X
each_item f no_items = []
each_item f (item d ds) = f d ∷ each_item f ds

-- what each item of an array is; none where the value is no array
abbrev pub array_of : {X : Type 0} → (Data → X) → Data → List X
array_of f (array ds) = each_item f ds
array_of f _ = []

-- the tables among the items
abbrev pub tables_among : Items → List Members
tables_among no_items = []
tables_among (item (table ms) ds) = ms ∷ tables_among ds
tables_among (item _ ds) = tables_among ds

-- the tables of an array; none where the value is no array
abbrev pub tables_of : Data → List Members
tables_of (array ds) = tables_among ds
tables_of _ = []

-- the key stands
abbrev pub stands : List ℕ → Members → Bool
stands key ms = option_map_or (λ (d : Data). true) (get_member key ms) false

-- what stands at a key, or a default
abbrev pub number_at : ℕ → List ℕ → Members → ℕ
number_at default key ms = option_map_or number_of (get_member key ms) default

-- the text of a key; empty where there is none
abbrev pub text_at : List ℕ → Members → List ℕ
text_at key ms = option_map_or text_of (get_member key ms) []

-- the numbers of a key; none where it does not stand
abbrev pub numbers_at : List ℕ → Members → List ℕ
numbers_at key ms = option_map_or (array_of number_of) (get_member key ms) []

-- the texts of a key; none where it does not stand
abbrev pub texts_at : List ℕ → Members → List (List ℕ)
texts_at key ms = option_map_or (array_of text_of) (get_member key ms) []

-- the tables of a key; none where it does not stand
abbrev pub tables_at : List ℕ → Members → List Members
tables_at key ms = option_map_or tables_of (get_member key ms) []

-- a text and a list of numbers that may be left out
abbrev pub some_text_at : List ℕ → Members → Option (List ℕ)
some_text_at key ms = option_map_or (λ (d : Data). Some (text_of d)) (get_member key ms) None

-- the numbers of a key that may be left out
abbrev pub some_numbers_at : List ℕ → Members → Option (List ℕ)
some_numbers_at key ms = option_map_or (λ (d : Data). Some (array_of number_of d)) (get_member key ms) None
