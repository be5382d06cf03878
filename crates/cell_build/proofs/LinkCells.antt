-- The cells of a link: lists with an element for its queue, where there is demand, and one for each of its road cells; what each
-- cell keeps, where the link is in range, its demand is light and its units at step 0 fit; and its cells behind others.
use Rattle.cell_build.proofs.TableSteps.{table_steps}
use Rattle.std.proofs.Common.{◌≡◌, ℕ, zero, suc, ◌+◌, ◌-◌, ◌<◌, ◌≤◌, List, [], ◌∷◌, ◌++◌, length, get_or, refl, ap, ◌∙◌, arith, inl, inr, Bool, if◌then◌else◌, Option, None, append_assoc}
use Rattle.listed.specs.Below.{table_of}
use Rattle.listed.proofs.TableLaws.{length-table_of, get_or-table_of}
use Rattle.demand.specs.declared.piece.Piece.{Piece}
use Rattle.cell_build.specs.Link.{queue_count, where_demand, cell_count, cells_of_link, initial_at, queue_of, road_of, road_to, queue_to}
use Rattle.std.proofs.lemmas.Bool.{cases_lt, lt-ltb, le-ltb}
use Rattle.ct_base.specs.Access.{cell_of, no_cell}
use Rattle.ct_base.specs.Validity.{IsBetween, IsOfKind, IsQueue, IsRoad}
use Rattle.ct_base.specs.declared.cell.Cell.{Cell}
use Rattle.ct_base.specs.declared.cell.Gate.{Gate}
use Rattle.ct_base.specs.declared.cell.Kind.TheVariants.{Queue, Road}
use Rattle.ct_base.specs.declared.cell.Out.{Out}
use Rattle.ct_base.specs.declared.cell.Out.TheVariants.{To}
use Rattle.network_file.specs.Range.{IsLinkInRange}
use Rattle.network_file.specs.declared.raw.RawLink.{RawLink}
use Rattle.demand.specs.Spread.{rate_at, rates_of}
use Rattle.std.proofs.lemmas.List.{length-append}
use Rattle.cell_build.specs.inner.Queues.{queue_demand, queue_with}

-- how many elements there are
pub length-with_queue : {X : Type 0} (pieces : List Piece) (queue : X) (n : ℕ) (f : ℕ → X) → length (where_demand pieces queue ++ table_of n f) ≡ queue_count pieces + n
length-with_queue [] queue n f = omega (arith, length-table_of n f)
length-with_queue (piece ∷ pieces) queue n f = omega (arith, length-table_of n f)

-- that of the queue stands first
pub with_queue-first : {X : Type 0} (pieces : List Piece) (queue : X) (n : ℕ) (f : ℕ → X) (j : ℕ) (d : X) → j < queue_count pieces → get_or (where_demand pieces queue ++ table_of n f) j d ≡ queue
with_queue-first [] queue n f j d within = absurd (omega arith)
with_queue-first (piece ∷ pieces) queue n f zero d within = refl
with_queue-first (piece ∷ pieces) queue n f (suc j) d within = absurd (omega arith)

-- those of the road cells stand behind it
pub with_queue-road : {X : Type 0} (pieces : List Piece) (queue : X) (n : ℕ) (f : ℕ → X) (j : ℕ) (d : X) → queue_count pieces ≤ j → j < queue_count pieces + n →
    get_or (where_demand pieces queue ++ table_of n f) j d ≡ f (j - queue_count pieces)
with_queue-road [] queue n f j d after within = get_or-table_of n f j d (omega arith) ∙ ap f (omega arith)
with_queue-road (piece ∷ pieces) queue n f zero d after within = absurd (omega arith)
with_queue-road (piece ∷ pieces) queue n f (suc j) d after within = get_or-table_of n f j d (omega arith) ∙ ap f (omega arith)

-- there is at most one queue
pub queue_count-le : (pieces : List Piece) → queue_count pieces ≤ 1
queue_count-le [] = omega arith
queue_count-le (piece ∷ pieces) = omega arith

-- a link whose demand is light in each step, and whose units at step 0 have room in each cell
pub record IsFit (steps : ℕ) (link : RawLink) : Type 0 where
  pub in_range : IsLinkInRange link
  pub light : (t : ℕ) → t < steps → rate_at link.pieces t ≤ 1000
  pub room : (i : ℕ) → i < link.cells → initial_at link.initial i ≤ link.store

-- cell j of a link whose cells number from first: it is within its limits, only the first may be a queue, each leads to
-- the next and is always open, but the last leads where the link leads, behind the link's gate
pub record IsLinkCell (steps first : ℕ) (last : Out) (gate : Option Gate) (link : RawLink) (j : ℕ) (cell : Cell) : Type 0 where
  pub cap : IsBetween 1 1000 cell.cap
  pub kind : IsOfKind cell.kind steps cell
  pub queue : j < queue_count link.pieces → cell.kind ≡ Queue
  pub road : queue_count link.pieces ≤ j → cell.kind ≡ Road
  pub inner : j + 1 < cell_count link → cell.out ≡ To (first + (j + 1))
  pub inner_gate : j + 1 < cell_count link → cell.gate ≡ None
  pub end : j + 1 ≡ cell_count link → cell.out ≡ last
  pub end_gate : j + 1 ≡ cell_count link → cell.gate ≡ gate

-- the queue of a link
queue_is_queue : (steps first_road : ℕ) (link : RawLink) → IsFit steps link → IsQueue steps (queue_of steps first_road link)
unfolding rates_of
queue_is_queue steps first_road link fit = record {
  store = refl;
  wave_p = refl;
  wave_q = refl;
  gate = refl;
  initial = refl;
  out = (first_road, refl);
  demand = length-table_of steps (rate_at link.pieces);
  demand_in_range = λ t d within.
      let there : t < steps = omega (arith, length-table_of steps (rate_at link.pieces)) in
      rw (get_or-table_of steps (rate_at link.pieces) t d there) (fit.light t there);
}

-- a road cell of a link
road_is_road : (steps i : ℕ) (gate : Option Gate) (out : Out) (link : RawLink) → IsFit steps link → i < link.cells → IsRoad (road_to gate out (initial_at link.initial i) link)
road_is_road steps i gate out link fit within = record {
  store = fit.in_range.store;
  wave_p = fit.in_range.wave_p;
  wave_q = fit.in_range.wave_q;
  initial = fit.room i within;
  demand = refl;
}

-- a road cell that is not the last leads to the next and has no gate
pub road_of-inner : (first_road i : ℕ) (last : Out) (gate : Option Gate) (link : RawLink) → i + 1 < link.cells →
    road_of first_road last gate link i ≡ road_to None (To (first_road + (i + 1))) (initial_at link.initial i) link
road_of-inner first_road i last gate link inner =
    ap (λ (b : Bool). road_to (if b then None else gate) (if b then To (first_road + (i + 1)) else last) (initial_at link.initial i) link) (lt-ltb (i + 1) link.cells inner)

-- the last road cell leads where the link leads, behind the link's gate
pub road_of-last : (first_road i : ℕ) (last : Out) (gate : Option Gate) (link : RawLink) → i + 1 ≡ link.cells →
    road_of first_road last gate link i ≡ road_to gate last (initial_at link.initial i) link
road_of-last first_road i last gate link is_last =
    ap (λ (b : Bool). road_to (if b then None else gate) (if b then To (first_road + (i + 1)) else last) (initial_at link.initial i) link) (le-ltb (i + 1) link.cells (omega arith))

-- the steps of a walk over the road cells
pub ruleset road_steps = (table_steps, road_of-inner, road_of-last)

-- how many cells a link has
pub length-cells_of_link : (steps first : ℕ) (last : Out) (gate : Option Gate) (link : RawLink) → length (cells_of_link steps first last gate link) ≡ cell_count link
unfolding cells_of_link
length-cells_of_link steps first last gate link = length-with_queue link.pieces _ link.cells _

-- the queue of a link is its first cell, and not its last
queue_is_link_cell : (steps first : ℕ) (last : Out) (gate : Option Gate) (link : RawLink) (j : ℕ) → IsFit steps link → j < queue_count link.pieces →
    IsLinkCell steps first last gate link j (queue_of steps (first + queue_count link.pieces) link)
queue_is_link_cell steps first last gate link j fit within =
    let one : queue_count link.pieces ≡ j + 1 = omega (arith, queue_count-le link.pieces) in
    record {
      cap = fit.in_range.cap;
      kind = queue_is_queue steps (first + queue_count link.pieces) link fit;
      queue = λ before. refl;
      road = λ after. absurd (omega arith);
      inner = λ before. ap (λ n. To (first + n)) one;
      inner_gate = λ before. refl;
      end = λ at_end. absurd (omega (arith, fit.in_range.cells));
      end_gate = λ at_end. absurd (omega (arith, fit.in_range.cells));
    }

-- the cells behind it are road cells
road_is_link_cell : (steps first : ℕ) (last : Out) (gate : Option Gate) (link : RawLink) (j : ℕ) → IsFit steps link → queue_count link.pieces ≤ j → j < cell_count link →
    IsLinkCell steps first last gate link j (road_of (first + queue_count link.pieces) last gate link (j - queue_count link.pieces))
road_is_link_cell steps first last gate link j fit after within =
    let first_road = first + queue_count link.pieces in
    let i = j - queue_count link.pieces in
    record {
      cap = fit.in_range.cap;
      kind = road_is_road steps i _ _ link fit (omega arith);
      queue = λ before. absurd (omega arith);
      road = λ _. refl;
      inner = λ before. ap (λ (cell : Cell). cell.out) (road_of-inner first_road i last gate link (omega arith)) ∙ ap To (omega arith);
      inner_gate = λ before. ap (λ (cell : Cell). cell.gate) (road_of-inner first_road i last gate link (omega arith));
      end = λ at_end. ap (λ (cell : Cell). cell.out) (road_of-last first_road i last gate link (omega arith));
      end_gate = λ at_end. ap (λ (cell : Cell). cell.gate) (road_of-last first_road i last gate link (omega arith));
    }

-- cell j of a link
pub cell_of-cells_of_link : (steps first : ℕ) (last : Out) (gate : Option Gate) (link : RawLink) (j : ℕ) → IsFit steps link → j < cell_count link →
    IsLinkCell steps first last gate link j (cell_of (cells_of_link steps first last gate link) j)
unfolding cells_of_link
cell_of-cells_of_link steps first last gate link j fit within =
    let first_road = first + queue_count link.pieces in
    elim (cases_lt j (queue_count link.pieces)) [
      | inl before ↦
          rw (with_queue-first link.pieces (queue_of steps first_road link) link.cells (road_of first_road last gate link) j no_cell before) (queue_is_link_cell steps first last gate link j fit before)
      | inr after ↦
          rw (with_queue-road link.pieces (queue_of steps first_road link) link.cells (road_of first_road last gate link) j no_cell after within) (road_is_link_cell steps first last gate link j fit after within)
    ]

-- the queue of a demand that pieces spread, behind some cells
queue_with-demand : (steps first : ℕ) (link : RawLink) (pieces : List Piece) → queue_with (first + 1) (queue_demand steps pieces) link ≡ where_demand pieces (queue_to (To (first + queue_count pieces)) (rates_of pieces steps) link)
queue_with-demand steps first link [] = refl
queue_with-demand steps first link (piece ∷ pieces) = refl

length-where_demand : (pieces : List Piece) (queue : Cell) → length (where_demand pieces queue) ≡ queue_count pieces
length-where_demand [] queue = refl
length-where_demand (piece ∷ pieces) queue = refl

-- the cells with the queue, and how many stand there
queued_is : (steps : ℕ) (demand : Option (List ℕ)) (link : RawLink) (before queued : List Cell) → demand ≡ queue_demand steps link.pieces → queued ≡ before ++ queue_with (length before + 1) demand link →
    queued ≡ before ++ where_demand link.pieces (queue_to (To (length before + queue_count link.pieces)) (rates_of link.pieces steps) link)
queued_is steps demand link before queued is queue =
    queue ∙ ap (λ units. before ++ queue_with (length before + 1) units link) is ∙ ap (λ queue. before ++ queue) (queue_with-demand steps (length before) link link.pieces)

pub length-queued : (steps : ℕ) (demand : Option (List ℕ)) (link : RawLink) (before queued : List Cell) → demand ≡ queue_demand steps link.pieces →
    queued ≡ before ++ queue_with (length before + 1) demand link → length queued ≡ length before + queue_count link.pieces
length-queued steps demand link before queued is queue =
    ap length (queued_is steps demand link before queued is queue) ∙ length-append before _ ∙ ap (λ n. length before + n) (length-where_demand link.pieces _)

-- the cells of a link behind the cells before it, with the queue of its demand
pub cells_behind : (steps : ℕ) (demand : Option (List ℕ)) (last : Out) (gate : Option Gate) (link : RawLink) (before queued all : List Cell) → demand ≡ queue_demand steps link.pieces →
    queued ≡ before ++ queue_with (length before + 1) demand link → all ≡ queued ++ table_of link.cells (road_of (length queued) last gate link) →
    all ≡ before ++ cells_of_link steps (length before) last gate link
unfolding cells_of_link
cells_behind steps demand last gate link before queued all is queue road =
    road ∙ ap (λ n. queued ++ table_of link.cells (road_of n last gate link)) (length-queued steps demand link before queued is queue)
    ∙ ap (λ cells. cells ++ table_of link.cells (road_of (length before + queue_count link.pieces) last gate link)) (queued_is steps demand link before queued is queue)
    ∙ append_assoc before _ _
