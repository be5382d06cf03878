-- The network of a number (docs/network-file.md, "Generated networks"): a street with 2 to 4 signals in a row, a side street
-- and a way off at each.
use Rattle.std.specs.Prelude.{ℕ, ◌+◌, ◌-◌, ◌*◌, ◌%◌, nat_eq, nat_lt, if◌then◌else◌, List, [], ◌∷◌, ◌++◌, codes}
use Rattle.std.specs.Fmt.{decimal}
use Rattle.listed.specs.Below.{join_below}
use Rattle.texts.specs.Lines.{text_of_lines}
use Rattle.generated_nets.specs.Spelling.{key_line, number_line, only_line, quoted, text_line}

-- how many junctions the network of a number has
abbrev pub junctions_of : ℕ → ℕ
junctions_of number = 2 + number % 3

-- how many steps
abbrev pub steps_of : ℕ → ℕ
steps_of number = 30 + number % 11

-- the name of a part: its letter and its number
abbrev pub named : List ℕ → ℕ → List ℕ
named letter j = letter ++ decimal j

-- the units that of each parcel go on along the street, from junction j to the next
abbrev pub ahead_of : (number j : ℕ) → ℕ
ahead_of number j = 2 + (number + j) % 3

-- the units a step that arrive at the head of the street
abbrev pub street_rate : ℕ → ℕ
street_rate number = 5 + number % 4

-- the units a step that arrive in the side street of junction j
abbrev pub side_rate : (number j : ℕ) → ℕ
side_rate number j = 2 + (number + 2 * j) % 4

-- what all links have: a name, road cells, a capacity, a storage, and a wave speed of a third of the free-flow speed
abbrev pub link_lines : (name : List ℕ) (cells : ℕ) → List (List ℕ)
link_lines name cells = codes "[[link]]" ∷ text_line (codes "name") name ∷ number_line (codes "cells") cells ∷ codes "cap = 10" ∷ codes "store = 40" ∷ codes "wave = [1, 3]" ∷ []

-- a link: what all links have, and the keys that it has beside these
abbrev pub link_text : (name : List ℕ) (cells : ℕ) (further : List (List ℕ)) → List ℕ
link_text name cells further = text_of_lines (link_lines name cells ++ further)

-- a branch, with its units of each parcel
abbrev pub branch : (name parcel : List ℕ) → List ℕ
branch name parcel = codes "{ link = " ++ quoted name ++ codes ", parcel = " ++ parcel ++ codes " }"

-- at junction j most go on along the street, and one unit of each parcel takes the way off
abbrev pub turns_line : (number j : ℕ) → List ℕ
turns_line number j = key_line (codes "turns") (codes "[" ++ branch (named (codes "m") (j + 1)) (decimal (ahead_of number j)) ++ codes ", " ++ branch (named (codes "o") j) (codes "1") ++ codes "]")

-- the signal of junction j gates a link, and opens it in the green of a phase
abbrev pub gate_lines : (j : ℕ) (phase : List ℕ) → List (List ℕ)
gate_lines j phase = text_line (codes "signal") (named (codes "k") j) ∷ only_line (codes "greens") phase ∷ []

-- one piece of demand, until ten steps before the last
abbrev pub demand_line : (number rate : ℕ) → List ℕ
demand_line number rate = key_line (codes "demand") (codes "[{ from = 0, until = " ++ decimal (steps_of number - 10) ++ codes ", rate = " ++ decimal rate ++ codes " }]")

-- demand stands at the head of the street alone
abbrev pub head_lines : (number j : ℕ) → List (List ℕ)
head_lines number j = if nat_eq j 0 then demand_line number (street_rate number) ∷ [] else []

-- the stretch of the street before junction j, or the one behind the last junction, which leads out of the network
unfoldable pub street_text : (number j : ℕ) → List ℕ
street_text number j =
    if nat_lt j (junctions_of number) then link_text (named (codes "m") j) 3 (turns_line number j ∷ (gate_lines j (codes "main") ++ head_lines number j))
    else link_text (named (codes "m") j) 2 []

-- the side street of junction j, which leads into the street behind it
unfoldable pub side_text : (number j : ℕ) → List ℕ
side_text number j =
    link_text (named (codes "s") j) 2 (text_line (codes "to") (named (codes "m") (j + 1)) ∷ (gate_lines j (codes "side") ++ demand_line number (side_rate number j) ∷ []))

-- the way off at junction j, which leads out of the network
unfoldable pub way_off_text : ℕ → List ℕ
way_off_text j = link_text (named (codes "o") j) 1 []

-- a phase: its name, the least and the greatest green, two steps of clearance, and the phase that follows
abbrev pub phase_lines : (name : List ℕ) (least greatest : ℕ) (following : List ℕ) → List (List ℕ)
phase_lines name least greatest following =
    codes "[[signal.phase]]" ∷ text_line (codes "name") name ∷ number_line (codes "min") least ∷ number_line (codes "max") greatest ∷ codes "clear = 2" ∷ only_line (codes "next") following ∷ []

-- the signal of junction j: the street and the side street in turn
unfoldable pub signal_text : ℕ → List ℕ
signal_text j =
    text_of_lines (codes "[[signal]]" ∷ text_line (codes "name") (named (codes "k") j) ∷ (phase_lines (codes "main") 4 12 (codes "side") ++ phase_lines (codes "side") 3 8 (codes "main")))

-- the format and the steps, which stand first
unfoldable pub top_text : ℕ → List ℕ
top_text number = text_of_lines (codes "format = 1" ∷ number_line (codes "steps") (steps_of number) ∷ [])

-- what stands at junction j: its side street, its way off, and the stretch of the street behind it
abbrev pub junction_text : (number j : ℕ) → List ℕ
junction_text number j = side_text number j ++ way_off_text j ++ street_text number (j + 1)

-- the text of the network of a number
unfoldable pub generated_text : ℕ → List ℕ
generated_text number = top_text number ++ street_text number 0 ++ join_below (junctions_of number) (junction_text number) ++ join_below (junctions_of number) signal_text
