-- The keys that a table may have, as the program lists them and as definitions do.
use Rattle.std.proofs.Common.{◌≡◌, ℕ, Bool, List, [], ◌∷◌, ◌||◌, map, String, Global, string_bytes, refl, ap}
use Rattle.std.specs.List.{list_any, list_all}
use Rattle.std.specs.Map.{keys_of as names_of}
use Rattle.std.specs.Str.{bytes_eq}
use Rattle.toml.specs.View.{members_view}
use Rattle.toml.specs.declared.value.Value.{Value}
use Rattle.network_file.specs.Keys.{Key}
use Rattle.network_file.specs.inner.KeyTables.{keys_of}
use Rattle.network_file.specs.Refusals.{has_only}
use Rattle.network_file.specs.declared.keys.Key.{Key as Listed}

-- each of these names is the name of one of the keys
abbrev pub are_known : List Listed → List (String Global) → Bool
are_known keys names = list_all (λ name. list_any (λ (key : Listed). bytes_eq (string_bytes name) key.name.now) keys) names

-- a text is found among the names of the keys as among the keys
list_any-names : (text : List ℕ) (keys : List Listed) → list_any (bytes_eq text) (map (λ (key : Key). key.name) (keys_of keys)) ≡ list_any (λ (key : Listed). bytes_eq text key.name.now) keys
list_any-names text [] = refl
list_any-names text (key ∷ keys) = ap (λ b. bytes_eq text key.name.now || b) (list_any-names text keys)

-- a table has only these keys where each key of its map is one of them
pub has_only_by_keys : (keys : List Listed) (entries : List (String Global × Value))
    → has_only (map (λ (key : Key). key.name) (keys_of keys)) (members_view entries) ≡ are_known keys (names_of entries)
has_only_by_keys keys [] = refl
has_only_by_keys keys (entry ∷ entries) = rw (list_any-names (string_bytes entry.0) keys, has_only_by_keys keys entries)
