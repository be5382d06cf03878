-- The columns of the program by what they count, in their order (docs/program.md, "Columns"). After Lo 1999 and 2001 in
-- outline; the columns are this project's own.
use Rattle.std.specs.Prelude.{ℕ, zero, suc, ◌+◌, ◌==◌, nat_lt, Bool, ◌&&◌, if◌then◌else◌, List, [], ◌∷◌, ◌++◌, length, map}
use Rattle.std.specs.List.{list_any}
use Rattle.listed.specs.Below.{join_below, table_of}
use Rattle.ct_base.specs.Access.{cell_of, phase_of, signal_of, targets}
use Rattle.ct_base.specs.declared.cell.Cell.{Cell}
use Rattle.ct_base.specs.declared.cell.Out.{Out}
use Rattle.ct_base.specs.declared.cell.Out.TheVariants.{Exit, To, Turns}
use Rattle.ct_base.specs.declared.net.Net.{Net}
use Rattle.ct_base.specs.declared.plan.Letter.{Letter}
use Rattle.ct_base.specs.declared.plan.Letter.TheVariants.{Green, Clear}
use Rattle.ct_base.specs.declared.signal.Signal.{Signal}

-- what a column counts, at step t
pub data Column : Type 0 where
  -- 1 where signal s shows the letter
  Bit : (t s : ℕ) → (letter : Letter) → Column
  -- the units in cell i
  Units : (t i : ℕ) → Column
  -- the units that cell i has room for, and the rest of their division by `wave_q`
  Room : (t i : ℕ) → Column
  RoomRest : (t i : ℕ) → Column
  -- the whole parcels in cell i, a diverge, and the units beside them
  Parcels : (t i : ℕ) → Column
  ParcelsRest : (t i : ℕ) → Column
  -- the parcels that the cell of branch k of cell i has room for, and the units of room beside them
  BranchRoom : (t i k : ℕ) → Column
  BranchRest : (t i k : ℕ) → Column
  -- the flow of the move out of cell i
  Flow : (t i : ℕ) → Column
  -- 1 where term m of that move is the first least one
  Switch : (t i m : ℕ) → Column

-- the letters that a phase brings: its green, and a clearing letter where it has clearing
abbrev pub letters_by : ℕ → ℕ → List Letter
letters_by p zero = Green p ∷ []
letters_by p (suc clear) = Green p ∷ Clear p ∷ []

-- the letters of a signal, phase by phase
unfoldable pub letters_of : Signal → List Letter
letters_of signal = join_below (length signal.phases) (λ p. letters_by p (phase_of signal p).clear)

-- the plan columns of a step: a bit for each letter of each signal
unfoldable pub bits_at : List Signal → ℕ → List Column
bits_at signals t = join_below (length signals) (λ s. map (Bit t s) (letters_of (signal_of signals s)))

-- some move leads into cell i
abbrev pub is_led_into : List Cell → ℕ → Bool
is_led_into cells i = list_any (λ (cell : Cell). list_any (λ target. target == i) (targets cell.out)) cells

-- the units that cell i has room for are a column: some move leads into it, and they are a division
abbrev pub has_room : List Cell → ℕ → Bool
has_room cells i = nat_lt 1 (cell_of cells i).wave_q && is_led_into cells i

-- the columns of a branch whose parcel has so many units
abbrev pub columns_of_branch : ℕ → ℕ → ℕ → ℕ → List Column
columns_of_branch t i k units = if nat_lt 1 units then BranchRoom t i k ∷ BranchRest t i k ∷ [] else []

-- the columns of branches, of which the first has number k
abbrev pub columns_of_branches : ℕ → ℕ → ℕ → List (ℕ × ℕ) → List Column
columns_of_branches t i k [] = []
columns_of_branches t i k (branch ∷ branches) = columns_of_branch t i k branch.1 ++ columns_of_branches t i (k + 1) branches

-- the columns of a diverge: its parcels, and those of its branches
abbrev pub columns_of_split : ℕ → ℕ → Out → List Column
columns_of_split t i Exit = []
columns_of_split t i (To b) = []
columns_of_split t i (Turns branches) = Parcels t i ∷ ParcelsRest t i ∷ columns_of_branches t i 0 branches

-- how many terms a move has: its cap, its sending term and its receiving terms
abbrev pub term_count : Out → ℕ
term_count Exit = 2
term_count (To b) = 3
term_count (Turns branches) = 2 + length branches

-- the columns of cell i at step t
unfoldable pub columns_of_cell : List Cell → ℕ → ℕ → List Column
columns_of_cell cells t i =
    let out = (cell_of cells i).out in
    Units t i ∷ (if has_room cells i then Room t i ∷ RoomRest t i ∷ [] else [])
    ++ columns_of_split t i out
    ++ Flow t i ∷ table_of (term_count out) (Switch t i)

-- the columns of all cells at step t
unfoldable pub columns_of_cells : List Cell → ℕ → List Column
columns_of_cells cells t = join_below (length cells) (columns_of_cell cells t)

-- the plan columns, of all steps
unfoldable pub plan_columns : Net → List Column
plan_columns net = join_below net.steps (bits_at net.signals)

-- all columns: the plan columns, and then those of the cells, step by step
unfoldable pub columns : Net → List Column
columns net = plan_columns net ++ join_below net.steps (columns_of_cells net.cells)
