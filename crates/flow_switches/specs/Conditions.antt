-- What the rows of a move and of a floor ask for: columns that exist, few terms and little weight, so that each row is within
-- the limits of a program, also where several terms name one column and are added up.
use Rattle.std.specs.Prelude.{ℕ, ◌+◌, ◌*◌, ◌<◌, ◌≤◌, ℤ, pos, ◌≤ℤ◌, unsigned_abs, List, [], All, length, Option, Some, None}
use Rattle.sparse_program.specs.Program.{Begun}
use Rattle.sparse_program.specs.Terms.{IsSmall, weight}
use Rattle.sparse_program.specs.declared.limits.TheConstants.{MAX_NUMBER, MAX_ROWS, MAX_TERMS}
use Rattle.sparse_program.specs.declared.row.Linear.{Linear}
use Rattle.flow_switches.specs.declared.term.Term.{Term}

-- each term is at a column below a count
abbrev pub AreBelow : ℕ → List (ℕ × ℤ) → Type 0
AreBelow columns terms = All (λ (term : ℕ × ℤ). term.0 < columns) terms

-- the columns of a gate, if there is one
abbrev pub gate_columns : Option (List ℕ) → List ℕ
gate_columns None = []
gate_columns (Some gate) = gate

-- a cap and its gate: the gate's columns exist, and so many switches and the flow fit into a row with them
pub record CapFits (columns switches : ℕ) (cap : ℤ) (gate : Option (List ℕ)) : Type 0 where
  pub not_negative : pos 0 ≤ℤ cap
  pub there : All (λ (column : ℕ). column < columns) (gate_columns gate)
  pub few : length (gate_columns gate) + 1 + switches ≤ MAX_TERMS
  pub light : unsigned_abs cap * (length (gate_columns gate) + 2) + switches ≤ MAX_NUMBER

-- a term: its columns exist, and so many switches and the flow fit into a row with them
pub record TermFits (columns switches : ℕ) (term : Term) : Type 0 where
  pub not_negative : pos 0 ≤ℤ term.most
  pub there : AreBelow columns term.of.terms
  pub few : length term.of.terms + 1 + switches ≤ MAX_TERMS
  pub light : weight term.of.terms + unsigned_abs term.most + switches ≤ MAX_NUMBER
  pub constant : unsigned_abs term.of.constant + unsigned_abs term.most ≤ MAX_NUMBER

-- how many switches a move has: one for its cap, and one for each further term
abbrev pub switches_of : List Term → ℕ
switches_of terms = length terms + 1

-- a move: its flow, and the switches from a column on, exist; its terms fit; and there is room for its rows
pub record MoveFits (program : Begun) (flow : ℕ) (cap : ℤ) (gate : Option (List ℕ)) (terms : List Term) (switches : ℕ) : Type 0 where
  pub flow_there : flow < length program.columns
  pub switches_there : switches + switches_of terms ≤ length program.columns
  pub cap_fits : CapFits (length program.columns) (switches_of terms) cap gate
  pub terms_fit : All (TermFits (length program.columns) (switches_of terms)) terms
  pub room : length program.rows + 1 + 2 * switches_of terms ≤ MAX_ROWS

-- a floor: all columns exist, the row has few terms and little weight, and there is room for it
pub record FloorFits (program : Begun) (whole rest : ℕ) (divisor : ℤ) (of : Linear) : Type 0 where
  pub whole_there : whole < length program.columns
  pub rest_there : rest < length program.columns
  pub there : AreBelow (length program.columns) of.terms
  pub not_negative : pos 0 ≤ℤ divisor
  pub few : length of.terms + 2 ≤ MAX_TERMS
  pub light : weight of.terms + unsigned_abs divisor + 1 ≤ MAX_NUMBER
  pub constant : IsSmall of.constant
  pub room : length program.rows < MAX_ROWS
