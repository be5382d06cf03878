-- The seed: a price for each row of a network's program, in the order in which `program_model` lists the rows (docs/search.md, "The
-- seed"). This project's own.
use Rattle.std.specs.Prelude.{ℕ, ◌<◌, ◌*◌, ℤ, pos, neg_ℤ, ◌≤ℤ◌, List, [], ◌∷◌, ◌++◌, length, map}
use Rattle.listed.specs.Below.{join_below}
use Rattle.ct_base.specs.Access.{cell_of}
use Rattle.ct_base.specs.declared.cell.Cell.{Cell}
use Rattle.ct_base.specs.declared.cell.Out.{Out}
use Rattle.ct_base.specs.declared.cell.Out.TheVariants.{Exit, To, Turns}
use Rattle.ct_base.specs.declared.net.Net.{Net}
use Rattle.sparse_program.specs.Box.{Ranges, high_of, low_of}
use Rattle.sparse_program.specs.Program.{col_of}
use Rattle.sparse_program.specs.declared.column.Col.{Col}
use Rattle.traffic_model.specs.Flow.{units_of_flow}
use Rattle.program_model.specs.Columns.{Column}
use Rattle.program_model.specs.FlowRows.{branches_rows, conservation_rows, move_terms, room_rows}
use Rattle.program_model.specs.RuleRows.{rule_rows}
use Rattle.program_model.specs.SwitchRows.{Term}
use Rattle.certificate_model.specs.Value.{scale}

-- a price of 0 for each
abbrev pub unpriced : {X : Type 0} → List X → List ℤ
unpriced {X} each = map (λ (one : X). pos 0) each

-- the price of so many units: what their waiting for a step costs (docs/search.md, "The seed")
abbrev pub price_of_units : ℕ → ℤ
price_of_units units = pos (scale * units)

-- the prices of the floors of a diverge: the floor of its parcels gives back the price of a unit (docs/search.md, "The seed")
abbrev pub split_prices : List Cell → ℕ → ℕ → Out → List ℤ
split_prices cells t i Exit = []
split_prices cells t i (To b) = []
split_prices cells t i (Turns branches) = neg_ℤ (price_of_units 1) ∷ unpriced (branches_rows cells t i 0 branches)

-- the prices of the lower rows of a move's terms: the second term, what the cell can send, has the price (docs/search.md, "The seed")
abbrev pub lower_prices : ℤ → List (Term Column) → List ℤ
lower_prices price [] = []
lower_prices price (cap ∷ []) = pos 0 ∷ []
lower_prices price (cap ∷ sending ∷ receiving) = pos 0 ∷ price ∷ unpriced receiving

-- the prices of the rows of a move: of its switches, of its lower rows and of its upper rows
abbrev pub move_prices : ℤ → List (Term Column) → List ℤ
move_prices price terms = pos 0 ∷ lower_prices price terms ++ unpriced terms

-- the prices of the flow rows of cell i at step t
unfoldable pub seed_at : Net → ℕ → ℕ → List ℤ
seed_at net t i =
    let out = (cell_of net.cells i).out in
    unpriced (room_rows net.cells t i)
    ++ split_prices net.cells t i out
    ++ move_prices (price_of_units (units_of_flow out)) (move_terms net t i)
    ++ unpriced (conservation_rows net.cells net.steps t i)

-- the prices of all rows: none on the rule rows, and then those of the flow rows
unfoldable pub seed_of : Net → List ℤ
seed_of net = unpriced (rule_rows net) ++ join_below net.steps (λ t. join_below (length net.cells) (seed_at net t))

-- a box that begins no lower than some columns do, and whose lows are at most its highs
pub record BeginsWithin (columns : List Col) (box : Ranges) : Type 0 where
  pub low : (j : ℕ) → j < length columns → (col_of columns j).low ≤ℤ low_of box j
  pub bounds : (j : ℕ) → j < length columns → low_of box j ≤ℤ high_of box j
