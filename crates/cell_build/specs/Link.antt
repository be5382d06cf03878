-- The cells of a link (docs/network-file.md, "From links to cells").
use Rattle.std.specs.Prelude.{ℕ, ◌+◌, nat_lt, if◌then◌else◌, List, [], ◌∷◌, ◌++◌, Option, Some, None, map, slice_index}
use Rattle.listed.specs.Below.{sum_below, table_of, join_below}
use Rattle.ct_base.specs.declared.cell.Cell.{Cell}
use Rattle.ct_base.specs.declared.cell.Gate.{Gate}
use Rattle.ct_base.specs.declared.cell.Kind.TheVariants.{Queue, Road}
use Rattle.ct_base.specs.declared.cell.Out.{Out}
use Rattle.ct_base.specs.declared.cell.Out.TheVariants.{Exit, To, Turns}
use Rattle.demand.specs.declared.piece.Piece.{Piece}
use Rattle.network_file.specs.declared.raw.RawLink.{RawLink}
use Rattle.network_file.specs.declared.raw.RawSignal.{RawSignal}
use Rattle.demand.specs.Spread.{rates_of}
use Rattle.cell_build.specs.Names.{link_names, raw_link, number_of, phase_names, set_of, signal_names, raw_signal}

-- a link with a piece of demand begins with one queue
abbrev pub queue_count : List Piece → ℕ
queue_count [] = 0
queue_count (piece ∷ pieces) = 1

-- how many cells a link becomes
abbrev pub cell_count : RawLink → ℕ
cell_count link = queue_count link.pieces + link.cells

-- how many cells the links before link k become, which is the number of its first cell
abbrev pub cells_below : List RawLink → ℕ → ℕ
cells_below links k = sum_below k (λ m. cell_count (raw_link links m))

-- the number of the first road cell of link k
abbrev pub first_road : List RawLink → ℕ → ℕ
first_road links k = cells_below links k + queue_count (raw_link links k).pieces

-- the first road cell of the link with a name
abbrev pub road_named : List RawLink → List ℕ → ℕ
road_named links name = first_road links (number_of (link_names links) name)

-- where a link leads
abbrev pub out_by : List RawLink → Option (List ℕ) → List (List ℕ × ℕ) → Out
out_by links (Some name) turns = To (road_named links name)
out_by links None [] = Exit
out_by links None (turn ∷ turns) = Turns (map (λ (branch : List ℕ × ℕ). (road_named links branch.0, branch.1)) (turn ∷ turns))

-- the signal that gates a link
abbrev pub signal_named : List RawSignal → List ℕ → RawSignal
signal_named signals name = raw_signal signals (number_of (signal_names signals) name)

-- the gate of a link with this signal and these greens, by their names
abbrev pub gate_by : List RawSignal → Option (List ℕ) → List (List ℕ) → Option Gate
gate_by signals None greens = None
gate_by signals (Some name) greens =
    Some (record { signal = number_of (signal_names signals) name; greens = set_of (phase_names (signal_named signals name)) greens })

-- the gate of a link, where it has a signal
abbrev pub gate_of : List RawSignal → RawLink → Option Gate
gate_of signals link = gate_by signals link.signal link.greens

-- the units of road cell i at step 0
abbrev pub initial_at : Option (List ℕ) → ℕ → ℕ
initial_at None i = 0
initial_at (Some units) i = slice_index units i

-- a queue of the link, where it leads, and its demand
abbrev pub queue_to : Out → List ℕ → RawLink → Cell
queue_to out demand link =
    record { kind = Queue; cap = link.cap; store = 0; wave_p = 1; wave_q = 1; gate = None; out = out; initial = 0; demand = demand }

-- the queue, which leads to the road cell after it
abbrev pub queue_of : ℕ → ℕ → RawLink → Cell
queue_of steps first_road link = queue_to (To first_road) (rates_of link.pieces steps) link

-- what there is of a queue, where there is a piece
abbrev pub where_demand : {X : Type 0} → List Piece → X → List X
where_demand [] queue = []
where_demand (piece ∷ pieces) queue = queue ∷ []

-- a road cell of the link: its gate, where it leads, and its units at step 0
abbrev pub road_to : Option Gate → Out → ℕ → RawLink → Cell
road_to gate out initial link =
    record { kind = Road; cap = link.cap; store = link.store; wave_p = link.wave_p; wave_q = link.wave_q; gate = gate; out = out; initial = initial; demand = [] }

-- road cell i of a link: it leads to the next one, and the last one, behind the link's gate, where the link leads
abbrev pub road_of : ℕ → Out → Option Gate → RawLink → ℕ → Cell
road_of first_road last gate link i =
    let inner = nat_lt (i + 1) link.cells in
    road_to (if inner then None else gate) (if inner then To (first_road + (i + 1)) else last) (initial_at link.initial i) link

-- the cells of a link, of which the first bears a number: a queue where there is demand, and then the road cells
-- from upstream to downstream
unfoldable pub cells_of_link : ℕ → ℕ → Out → Option Gate → RawLink → List Cell
cells_of_link steps first last gate link =
    let first_road = first + queue_count link.pieces in
    where_demand link.pieces (queue_of steps first_road link) ++ table_of link.cells (road_of first_road last gate link)

-- link k of a network as cells
abbrev pub cells_at : ℕ → List RawSignal → List RawLink → ℕ → List Cell
cells_at steps signals links k =
    let link = raw_link links k in
    cells_of_link steps (cells_below links k) (out_by links link.to link.turns) (gate_of signals link) link

-- the cells of the first n links, in the order of the file
unfoldable pub cells_of_links : ℕ → List RawSignal → List RawLink → ℕ → List Cell
cells_of_links steps signals links n = join_below n (cells_at steps signals links)
