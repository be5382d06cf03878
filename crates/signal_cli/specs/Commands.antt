-- What the words of a command line ask for (README.md, "Commands").
use Rattle.std.specs.Prelude.{ℕ, Bool, true, false, ◌&&◌, not, nat_le, if◌then◌else◌, List, [], ◌∷◌, ◌++◌, Option, Some, None, option_map, codes}
use Rattle.std.specs.List.{list_any}
use Rattle.std.specs.Str.{bytes_eq}
use Rattle.texts.specs.Numbers.{natural_in}

-- a command with the names of its files
pub data Command : Type 0 where
  Replay : (network : List ℕ) (plan : Option (List ℕ)) → Command
  Trace : (network plan table : List ℕ) → Command
  Program : (network text : List ℕ) → Command
  Encode : (network plan text : List ℕ) → Command
  Point : (network point : List ℕ) → Command
  Check : (network certificate : List ℕ) → Command
  Gap : (network plan certificate : List ℕ) → Command
  Solve : (network : List ℕ) (budget : ℕ) (plan certificate : List ℕ) → Command
  Demo : (number : ℕ) → Command

-- the files of a command that are read, in the order of reading
abbrev pub inputs_of : Command → List (List ℕ)
inputs_of (Replay network None) = network ∷ []
inputs_of (Replay network (Some plan)) = network ∷ plan ∷ []
inputs_of (Trace network plan table) = network ∷ plan ∷ []
inputs_of (Program network text) = network ∷ []
inputs_of (Encode network plan text) = network ∷ plan ∷ []
inputs_of (Point network point) = network ∷ point ∷ []
inputs_of (Check network certificate) = network ∷ certificate ∷ []
inputs_of (Gap network plan certificate) = network ∷ plan ∷ certificate ∷ []
inputs_of (Solve network budget plan certificate) = network ∷ []
inputs_of (Demo number) = []

-- the files of a command that are written, in the order of writing
abbrev pub outputs_of : Command → List (List ℕ)
outputs_of (Replay network plan) = []
outputs_of (Trace network plan table) = table ∷ []
outputs_of (Program network text) = text ∷ []
outputs_of (Encode network plan text) = text ∷ []
outputs_of (Point network point) = []
outputs_of (Check network certificate) = []
outputs_of (Gap network plan certificate) = []
outputs_of (Solve network budget plan certificate) = plan ∷ certificate ∷ []
outputs_of (Demo number) = []

-- the name has no byte
abbrev pub is_empty : List ℕ → Bool
is_empty [] = true
is_empty (byte ∷ bytes) = false

-- none of the names is empty, and no two are equal
abbrev pub are_names : List (List ℕ) → Bool
are_names [] = true
are_names (name ∷ names) = not (is_empty name) && (not (list_any (bytes_eq name) names) && are_names names)

-- a budget of nodes is at least 1, and has 32 bits
abbrev pub allowed : Option ℕ → Option ℕ
allowed None = None
allowed (Some nodes) = if nat_le 1 nodes && nat_le nodes 4294967295 then Some nodes else None

-- the budget that a word names: a number of one spelling
abbrev pub budget_in : List ℕ → Option ℕ
budget_in word = allowed (natural_in 10 word)

-- the number of a generated network that a word names: one of at most four digits, with one spelling
abbrev pub generated_in : List ℕ → Option ℕ
generated_in word = natural_in 4 word

-- the command whose form the words have, whatever its files are called
abbrev pub form_of : List (List ℕ) → Option Command
form_of (command ∷ first ∷ []) =
    if bytes_eq command (codes "replay") then Some (Replay first None) else
    (if bytes_eq command (codes "demo") then option_map Demo (generated_in first) else None)
form_of (command ∷ network ∷ second ∷ []) =
    if bytes_eq command (codes "replay") then Some (Replay network (Some second)) else
    (if bytes_eq command (codes "program") then Some (Program network second) else
    (if bytes_eq command (codes "point") then Some (Point network second) else
    (if bytes_eq command (codes "check") then Some (Check network second) else None)))
form_of (command ∷ network ∷ plan ∷ third ∷ []) =
    if bytes_eq command (codes "trace") then Some (Trace network plan third) else
    (if bytes_eq command (codes "encode") then Some (Encode network plan third) else
    (if bytes_eq command (codes "gap") then Some (Gap network plan third) else None))
form_of (command ∷ network ∷ budget ∷ plan ∷ certificate ∷ []) =
    if bytes_eq command (codes "solve") then option_map (λ (budget : ℕ). Solve network budget plan certificate) (budget_in budget) else None
form_of _ = None

-- a command whose files have names that differ
abbrev pub named : Option Command → Option Command
named None = None
named (Some command) = if are_names (inputs_of command ++ outputs_of command) then Some command else None

-- the command that the words ask for
abbrev pub command_of : List (List ℕ) → Option Command
command_of words = named (form_of words)
