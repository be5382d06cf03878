-- Why a document is refused (docs/network-file.md, "Refusals"): a stage lists its faults in the order of a walk over all
-- tables, and the first stage that has one decides, with its first.
use Rattle.std.specs.Prelude.{ℕ, ◌+◌, min, Bool, true, false, not, ◌&&◌, List, [], ◌∷◌, ◌++◌, flat_map, map, take, codes}
use Rattle.std.specs.List.{list_any}
use Rattle.std.specs.Option.{option_map_or}
use Rattle.std.specs.Str.{bytes_eq}
use Rattle.toml.specs.Data.{Data, Members, no_members, member, get_member}
use Rattle.refusals.specs.Faults.{per_item, where_so}
use Rattle.network_file.specs.Documents.{tables_at, text_at}
use Rattle.network_file.specs.Keys.{Key, whole, top_keys, link_keys, turn_keys, piece_keys, signal_keys, phase_keys}
use Rattle.network_file.specs.declared.fault.At.{At}
use Rattle.network_file.specs.declared.fault.At.TheVariants.{Top, Link, Turn, Piece, Signal, Phase}
use Rattle.network_file.specs.declared.fault.NetFault.{NetFault}
use Rattle.network_file.specs.declared.fault.NetFault.TheVariants as fault

-- a table of the document, where it stands, and the keys that it may have
pub record Place : Type 0 where
  pub at : At
  pub keys : List Key
  pub members : Members

-- a table of the file, with the keys that it may have
abbrev pub place : At → List Key → Members → Place
place at keys members = record { at = at; keys = keys; members = members }

-- a place in an array, as 32 bits hold it
abbrev pub number : ℕ → ℕ
number i = min i 4294967295

-- a link, then its turns, then its pieces of demand
abbrev pub turn_places : ℕ → ℕ → Members → List Place
turn_places k j turn = place (Turn (number k) (number j)) turn_keys turn ∷ []

-- the table of piece j of link k
abbrev pub piece_places : ℕ → ℕ → Members → List Place
piece_places k j piece = place (Piece (number k) (number j)) piece_keys piece ∷ []

-- the table of link k, then those of its turns and its pieces
abbrev pub link_places : ℕ → Members → List Place
link_places k link =
    place (Link (number k)) link_keys link
    ∷ (per_item (tables_at (codes "turns") link) (turn_places k) ++ per_item (tables_at (codes "demand") link) (piece_places k))

-- a signal, then its phases
abbrev pub phase_places : ℕ → ℕ → Members → List Place
phase_places s p phase = place (Phase (number s) (number p)) phase_keys phase ∷ []

-- the table of signal s, and then those of its phases
abbrev pub signal_places : ℕ → Members → List Place
signal_places s signal = place (Signal (number s)) signal_keys signal ∷ per_item (tables_at (codes "phase") signal) (phase_places s)

-- all tables: the top table, then each link, then each signal
unfoldable pub walk : Members → List Place
walk top =
    place Top top_keys top
    ∷ (per_item (tables_at (codes "link") top) link_places ++ per_item (tables_at (codes "signal") top) signal_places)

-- `format` stands and is the whole number 1
abbrev pub has_format : Members → Bool
has_format top = option_map_or (whole 1 1) (get_member (codes "format") top) false

-- the key is missing where it must stand, or its value is of another type
abbrev pub is_broken : Members → Key → Bool
is_broken ms key = option_map_or (λ (d : Data). not (key.has_type d)) (get_member key.name ms) (key.is_needed ms)

-- each key of the table is one of these
abbrev pub has_only : List (List ℕ) → Members → Bool
has_only keys no_members = true
has_only keys (member name d ms) = list_any (bytes_eq name) keys && has_only keys ms

-- key: a key of a table that is missing where it must stand, or whose value is of another type
abbrev pub key_at : At → Members → ℕ → Key → List NetFault
key_at at ms k key = where_so (is_broken ms key) (fault.Key at (k + 1))

-- the key faults of a table: those of its keys in their order, and then that of unknown keys, which have number 0
unfoldable pub key_faults_at : Place → List NetFault
key_faults_at place =
    per_item place.keys (key_at place.at place.members)
    ++ where_so (not (has_only (map (λ (key : Key). key.name) place.keys) place.members)) (fault.Key place.at 0)

-- the value of the key is out of its range
abbrev pub is_out_of_range : Members → Key → Bool
is_out_of_range ms key = option_map_or (λ (d : Data). not (key.is_in_range d)) (get_member key.name ms) false

-- range: a key of a table whose value is out of its range
abbrev pub range_at : At → Members → ℕ → Key → List NetFault
range_at at ms k key = where_so (is_out_of_range ms key) (fault.Range at (k + 1))

-- the keys of a table whose values are out of range
unfoldable pub range_faults_at : Place → List NetFault
range_faults_at place = per_item place.keys (range_at place.at place.members)

-- name: a name of the list that an earlier one is
abbrev pub name_at : List (List ℕ) → (ℕ → At) → ℕ → List ℕ → List NetFault
name_at names at i name = where_so (list_any (bytes_eq name) (take i names)) (fault.Name (at i))

-- the names of tables
abbrev pub names_of : List Members → List (List ℕ)
names_of tables = map (text_at (codes "name")) tables

-- links among each other; signals among each other, and the phases of each signal behind it
abbrev pub link_name_faults : List (List ℕ) → List NetFault
link_name_faults names = per_item names (name_at names (λ k. Link (number k)))

-- the phases of signal s whose names an earlier one of it has
abbrev pub phase_name_faults : ℕ → List (List ℕ) → List NetFault
phase_name_faults s names = per_item names (name_at names (λ p. Phase (number s) (number p)))

-- signal s where an earlier one has its name, and then its phases
abbrev pub signal_name_faults : List Members → ℕ → Members → List NetFault
signal_name_faults signals s signal =
    name_at (names_of signals) (λ k. Signal (number k)) s (text_at (codes "name") signal)
    ++ phase_name_faults s (names_of (tables_at (codes "phase") signal))

-- the three stages over the whole document
unfoldable pub key_faults : Members → List NetFault
key_faults top = flat_map key_faults_at (walk top)

-- the faults of range of all tables, in the order of the walk
unfoldable pub range_faults : Members → List NetFault
range_faults top = flat_map range_faults_at (walk top)

-- the faults of names of all tables, in the order of the walk
unfoldable pub name_faults : Members → List NetFault
name_faults top =
    link_name_faults (names_of (tables_at (codes "link") top))
    ++ per_item (tables_at (codes "signal") top) (signal_name_faults (tables_at (codes "signal") top))

-- the faults of a document: all of keys, then all of ranges, then all of names
abbrev pub faults_of : Members → List NetFault
faults_of top = key_faults top ++ (range_faults top ++ name_faults top)
