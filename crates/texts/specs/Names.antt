-- Names of links, signals and phases (docs/network-file.md, "Names").
use Rattle.std.specs.Prelude.{ℕ, Bool, true, false, not, ◌&&◌, ◌||◌, nat_le, nat_lt, ◌==◌, List, [], ◌∷◌, length}
use Rattle.std.specs.List.{list_all, list_any}
use Rattle.std.specs.Str.{bytes_eq}
use Rattle.limits.specs.declared.TheConstants.{MAX_NAME_BYTES}

-- a to z
abbrev pub is_small_letter : ℕ → Bool
is_small_letter c = nat_le 97 c && nat_le c 122

-- a character of a name: a to z, 0 to 9 or _
abbrev pub is_name_character : ℕ → Bool
is_name_character c = is_small_letter c || (nat_le 48 c && nat_le c 57) || (c == 95)

-- a name: 1 to 24 such characters, of which the first is a letter
abbrev pub is_name : List ℕ → Bool
is_name [] = false
is_name (c ∷ cs) = is_small_letter c && (nat_lt (length cs) MAX_NAME_BYTES && list_all is_name_character cs)

-- no text stands twice
abbrev pub all_differ : List (List ℕ) → Bool
all_differ [] = true
all_differ (text ∷ texts) = not (list_any (bytes_eq text) texts) && all_differ texts
