-- How the tables of a generated network are spelled: a key with its value on a line (docs/network-file.md, "Generated networks").
use Rattle.std.specs.Prelude.{ℕ, List, ◌++◌, codes}
use Rattle.std.specs.Fmt.{decimal}

-- a text as a value
abbrev pub quoted : List ℕ → List ℕ
quoted text = codes "\"" ++ text ++ codes "\""

-- a key with its value, a space on each side of the sign between them
abbrev pub key_line : (key value : List ℕ) → List ℕ
key_line key value = key ++ codes " = " ++ value

-- a key with a number
abbrev pub number_line : List ℕ → ℕ → List ℕ
number_line key number = key_line key (decimal number)

-- a key with a text
abbrev pub text_line : (key text : List ℕ) → List ℕ
text_line key text = key_line key (quoted text)

-- a key with an array of one text
abbrev pub only_line : (key text : List ℕ) → List ℕ
only_line key text = key_line key (codes "[" ++ quoted text ++ codes "]")
