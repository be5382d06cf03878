-- The moves of a network as the code keeps them for its rows.
use Rattle.std.specs.Prelude.{◌≡◌, ℕ, ◌+◌, ◌==◌, not, ℤ, pos, neg_ℤ, List, ◌∷◌, filter, length, map, Bool, ◌<◌, ◌≤◌, All, unsigned_abs}
use Rattle.listed.specs.Below.{table_of}
use Rattle.ct_base.specs.Access.{cell_of}
use Rattle.ct_base.specs.declared.cell.Cell.{Cell}
use Rattle.ct_base.specs.declared.net.Net.{Net}
use Rattle.sparse_program.specs.Terms.{weight}
use Rattle.traffic_model.specs.Flow.{share}
use Rattle.program_model.specs.Numbers.{cells_before, place_of_flow}
use Rattle.lo_program.specs.declared.flows.feeders.Moves.{Moves}

-- the place of the flow out of cell j among the columns of a step
abbrev pub flow_place : List Cell → ℕ → ℕ
flow_place cells j = cells_before cells j + place_of_flow cells j

-- a move brings units
abbrev pub brings : ℕ × ℕ → Bool
brings feeder = not (feeder.1 == 0)

-- the move out of cell j, and the units that it brings into cell i
abbrev pub feeder : List Cell → ℕ → ℕ → ℕ × ℕ
feeder cells i j = (flow_place cells j, share (cell_of cells j).out i)

-- the moves out of the first n cells that lead into cell i
abbrev pub feeders_among : List Cell → ℕ → ℕ → List (ℕ × ℕ)
feeders_among cells n i = filter brings (table_of n (feeder cells i))

-- all moves that lead into cell i
abbrev pub feeders_of : List Cell → ℕ → List (ℕ × ℕ)
feeders_of cells i = feeders_among cells (length cells) i

-- the moves are the network's
pub record IsMoves (net : Net) (moves : Moves) : Type 0 where
  pub flows : moves.flows ≡ table_of (length net.cells) (flow_place net.cells)
  pub feeders : moves.feeders ≡ table_of (length net.cells) (feeders_of net.cells)

-- what leaves the cells of moves into one cell at a step, whose columns begin with a number
abbrev pub leaving_terms : ℕ → List (ℕ × ℕ) → List (ℕ × ℤ)
leaving_terms first feeders = map (λ (feeder : ℕ × ℕ). (first + feeder.0, neg_ℤ (pos feeder.1))) feeders

-- the terms of what a cell holds in the next step: that, what it holds, its flow, and the moves into it
abbrev pub conservation_terms : ℕ → ℕ → ℕ × ℤ → List (ℕ × ℤ) → List (ℕ × ℤ)
conservation_terms next held flow entering = (next, pos 1) ∷ (held, neg_ℤ (pos 1)) ∷ flow ∷ entering

-- the row of what a cell holds in the next step: its columns exist, its moves are few and weigh little
pub record ConservationFits (columns next held : ℕ) (flow : ℕ × ℤ) (entering : List (ℕ × ℤ)) (demand : ℤ) : Type 0 where
  pub there : All (λ (term : ℕ × ℤ). term.0 < columns) (conservation_terms next held flow entering)
  pub few : length entering ≤ 60
  pub light : weight entering ≤ 500000
  pub units : unsigned_abs flow.1 ≤ 400
  pub arrivals : unsigned_abs demand ≤ 1000
