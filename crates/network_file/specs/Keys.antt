-- The keys of each table of a network file (docs/network-file.md, "Keys"): which must stand, of which type, within which range.
-- A key's number is its place in the list of its table, counted from 1.
use Rattle.std.specs.Prelude.{ℕ, pos, Bool, true, false, ◌&&◌, nat_le, List, [], ◌∷◌, codes}
use Rattle.toml.specs.Data.{Data, string, integer, array, no_items, item, Members}
use Rattle.texts.specs.Names.{is_name}
use Rattle.network_file.specs.Documents.{all_items, count_of, is_array_of, is_table, is_text, is_whole, stands}

-- a key of a table: its name, where it must stand, its type and its range
pub record Key : Type 0 where
  pub name : List ℕ
  pub is_needed : Members → Bool
  pub has_type : Data → Bool
  pub is_in_range : Data → Bool

-- a key with these four
abbrev pub key : List ℕ → (Members → Bool) → (Data → Bool) → (Data → Bool) → Key
key name is_needed has_type is_in_range = record { name = name; is_needed = is_needed; has_type = has_type; is_in_range = is_in_range }

-- a key that must stand, one that may be left out, and one that must stand where another does
abbrev pub needed : Members → Bool
needed ms = true

-- the key may be left out
abbrev pub optional : Members → Bool
optional ms = false

-- the key must stand where another does
abbrev pub needed_with : List ℕ → Members → Bool
needed_with other ms = stands other ms

-- ranges: any value, a name, a whole number, a number of items, a number of items in a range each
abbrev pub any : Data → Bool
any d = true

-- the text has the shape of a name
abbrev pub name_shape : Data → Bool
name_shape (string text) = is_name text
name_shape _ = false

-- a whole number from low to high
abbrev pub whole : ℕ → ℕ → Data → Bool
whole low high (integer (pos n)) = nat_le low n && nat_le n high
whole low high _ = false

-- an array of so many items
abbrev pub count : ℕ → ℕ → Data → Bool
count low high (array ds) = nat_le low (count_of ds) && nat_le (count_of ds) high
count low high _ = false

-- an array of at most so many whole numbers, each from low to high
abbrev pub wholes : ℕ → ℕ → ℕ → Data → Bool
wholes most low high (array ds) = nat_le (count_of ds) most && all_items (whole low high) ds
wholes most low high _ = false

-- two numbers p and q with 1 <= p <= q <= 100
abbrev pub wave : Data → Bool
wave (array (item (integer (pos p)) (item (integer (pos q)) no_items))) = nat_le 1 p && (nat_le p q && nat_le q 100)
wave _ = false

-- the keys of the top table
abbrev pub top_keys : List Key
top_keys =
    key (codes "format") needed is_whole any
    ∷ key (codes "steps") needed is_whole (whole 1 240)
    ∷ key (codes "link") needed (is_array_of is_table) (count 1 64)
    ∷ key (codes "signal") optional (is_array_of is_table) (count 0 16)
    ∷ []

-- the keys of a link
abbrev pub link_keys : List Key
link_keys =
    key (codes "name") needed is_text name_shape
    ∷ key (codes "cells") optional is_whole (whole 1 256)
    ∷ key (codes "cap") needed is_whole (whole 1 1000)
    ∷ key (codes "store") needed is_whole (whole 1 10000)
    ∷ key (codes "wave") optional (is_array_of is_whole) wave
    ∷ key (codes "to") optional is_text any
    ∷ key (codes "turns") optional (is_array_of is_table) (count 2 4)
    ∷ key (codes "signal") (needed_with (codes "greens")) is_text any
    ∷ key (codes "greens") (needed_with (codes "signal")) (is_array_of is_text) (count 1 16)
    ∷ key (codes "initial") optional (is_array_of is_whole) (wholes 256 0 10000)
    ∷ key (codes "demand") optional (is_array_of is_table) (count 0 240)
    ∷ key (codes "rates") optional (is_array_of is_whole) (wholes 240 0 1000)
    ∷ []

-- the keys of a turn
abbrev pub turn_keys : List Key
turn_keys =
    key (codes "link") needed is_text any
    ∷ key (codes "parcel") needed is_whole (whole 1 100)
    ∷ []

-- the keys of a piece of demand
abbrev pub piece_keys : List Key
piece_keys =
    key (codes "from") needed is_whole (whole 0 240)
    ∷ key (codes "until") needed is_whole (whole 0 240)
    ∷ key (codes "rate") needed is_whole (whole 0 1000)
    ∷ []

-- the keys of a signal
abbrev pub signal_keys : List Key
signal_keys =
    key (codes "name") needed is_text name_shape
    ∷ key (codes "start") optional is_text any
    ∷ key (codes "phase") needed (is_array_of is_table) (count 2 8)
    ∷ []

-- the keys of a phase
abbrev pub phase_keys : List Key
phase_keys =
    key (codes "name") needed is_text name_shape
    ∷ key (codes "min") needed is_whole (whole 1 60)
    ∷ key (codes "max") needed is_whole (whole 1 60)
    ∷ key (codes "clear") optional is_whole (whole 0 20)
    ∷ key (codes "next") needed (is_array_of is_text) (count 0 16)
    ∷ []
