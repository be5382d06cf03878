-- The demand of each link, which is judged and then built.
use Rattle.std.specs.Prelude.{ℕ, List, [], ◌∷◌, map, Option, Some, None}
use Rattle.ct_base.specs.declared.cell.Cell.{Cell}
use Rattle.ct_base.specs.declared.cell.Out.TheVariants.{To}
use Rattle.demand.specs.declared.piece.Piece.{Piece}
use Rattle.demand.specs.Spread.{rates_of}
use Rattle.network_file.specs.declared.raw.RawLink.{RawLink}
use Rattle.demand.specs.declared.fault.DemandFault.{DemandFault}
use Rattle.demand.specs.declared.fault.DemandFault.TheVariants as demand
use Rattle.cell_build.specs.declared.fault.BuildFault.{BuildFault}
use Rattle.cell_build.specs.declared.fault.BuildFault.TheVariants.{Demand, Memory}
use Rattle.cell_build.specs.Link.{queue_to}

-- the demand of a link's queue, where there is a piece
abbrev pub queue_demand : ℕ → List Piece → Option (List ℕ)
queue_demand steps [] = None
queue_demand steps (piece ∷ pieces) = Some (rates_of (piece ∷ pieces) steps)

-- that of each link
abbrev pub demands_of : ℕ → List RawLink → List (Option (List ℕ))
demands_of steps links = map (λ (link : RawLink). queue_demand steps link.pieces) links

-- the queue that a demand arrives at, which leads to the road cell after it
abbrev pub queue_with : ℕ → Option (List ℕ) → RawLink → List Cell
queue_with first_road None link = []
queue_with first_road (Some demand) link = queue_to (To first_road) demand link ∷ []

-- a fault of the demand of link k; want of memory is no fault of the link
abbrev pub fault_of : ℕ → DemandFault → BuildFault
fault_of k demand.Memory = Memory
fault_of k fault = Demand k fault
