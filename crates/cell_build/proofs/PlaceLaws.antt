-- Where the cells of a network lie: the first road cells by number, each cell as one cell of one link, and the cells one link
-- at a time.
use Rattle.cell_build.proofs.TableSteps.{table_steps}
use Rattle.std.proofs.Common.{◌≡◌, ℕ, ◌+◌, ◌<◌, ◌≤◌, List, length, get_or, Option, Some, None, IfSome, unwrap_or, sym, ap, ◌∙◌, arith, inl, inr, refl, ◌≢◌, [], ◌++◌}
use Rattle.std.proofs.lemmas.List.{get_or-map, length-map, get_or_read}
use Rattle.listed.proofs.SumLaws.{sum_below-fewer, sum_below-suc, sum_below-zero}
use Rattle.listed.proofs.TableLaws.{get_or-table_of, length-table_of}
use Rattle.network_file.specs.declared.raw.RawLink.{RawLink}
use Rattle.cell_build.specs.inner.Firsts.{AreFirsts}
use Rattle.cell_build.specs.Link.{cell_count, cells_below, first_road, queue_count, cells_at, cells_of_links, gate_of, out_by, cells_of_link}
use Rattle.cell_build.specs.Names.{raw_link, no_link}
use Rattle.std.proofs.lemmas.Bool.{cases_order}
use Rattle.ct_base.specs.Access.{cell_of, no_cell}
use Rattle.ct_base.specs.declared.cell.Cell.{Cell}
use Rattle.network_file.specs.Range.{IsInRange, IsLinkInRange}
use Rattle.network_file.specs.declared.raw.RawNet.{RawNet}
use Rattle.cell_build.proofs.FaultLaws.{HasNoFault, has_room, step_is_light, cells_are_few, signals_are_there, has_no_fault}
use Rattle.listed.proofs.JoinLaws.{get_or-join_below, length-join_below, part_of, join_below-suc}
use Rattle.cell_build.proofs.LinkCells.{IsFit, IsLinkCell, cell_of-cells_of_link, length-cells_of_link, cells_behind, length-queued}
use Rattle.listed.specs.Below.{join_below}

-- a place that was found, or the first one, is that of a link, whose first road cell stands there
pub found_first : (links : List RawLink) (firsts : List ℕ) (found : Option ℕ) → AreFirsts links firsts → IfSome found (λ place. place < length links) →
    (unwrap_or found 0 < length firsts) × (get_or firsts (unwrap_or found 0) 0 ≡ first_road links (unwrap_or found 0))
found_first links firsts None are within = (rw are.each (rw length-table_of are.some), rw are.each (get_or-table_of (length links) (first_road links) 0 0 are.some))
found_first links firsts (Some place) are within = (rw are.each (rw length-table_of within), rw are.each (get_or-table_of (length links) (first_road links) place 0 within))

-- no link has no cells
pub below_none : (links : List RawLink) → 0 ≡ cells_below links 0
below_none links = sym (sum_below-zero (λ m. cell_count (raw_link links m)))

-- the cells before the next link are those before the link and its own
pub cells_below-suc : (links : List RawLink) (k : ℕ) → cells_below links (k + 1) ≡ cells_below links k + cell_count (raw_link links k)
cells_below-suc links k = sum_below-suc k (λ m. cell_count (raw_link links m))

-- the steps of a walk over links that counts cells
pub ruleset cell_steps = (below_none, cells_below-suc, get_or_read)

pub cells_below-fewer : (links : List RawLink) (m n : ℕ) → m ≤ n → cells_below links m ≤ cells_below links n
cells_below-fewer links m n le = sum_below-fewer m n (λ m. cell_count (raw_link links m)) le

-- they are not more than all cells
pub next_is_few : (links : List RawLink) (k : ℕ) → k < length links → cells_below links k + cell_count (raw_link links k) ≤ cells_below links (length links)
next_is_few links k within = omega (arith, cells_below-suc links k, cells_below-fewer links (k + 1) (length links) (omega arith))

-- the steps of a walk over links that numbers their first road cells
pub ruleset road_steps = (cell_steps, next_is_few, table_steps)

-- cell j of the network is cell i of link k
pub record IsAt (links : List RawLink) (j k i : ℕ) : Type 0 where
  pub link : k < length links
  pub cell : i < cell_count (raw_link links k)
  pub is : j ≡ cells_below links k + i

-- each cell is at a place
pub place_of : (links : List RawLink) (j : ℕ) → j < cells_below links (length links) → (k : ℕ) × (i : ℕ) × IsAt links j k i
place_of links j within =
    let part = part_of (length links) (λ m. cell_count (raw_link links m)) j within in
    (part.0, part.1, record { link = part.2; cell = part.3; is = part.4 })

-- a cell of an earlier link is not a cell of a later one
not_later : (links : List RawLink) (j k i m l : ℕ) → IsAt links j k i → IsAt links j m l → k < m → ⊥
not_later links j k i m l here there later =
    omega (arith, here.cell, here.is, there.is, cells_below-suc links k, cells_below-fewer links (k + 1) m (omega arith))

-- a cell is at one place
pub one_place : (links : List RawLink) (j k i m l : ℕ) → IsAt links j k i → IsAt links j m l → (k ≡ m) × (i ≡ l)
one_place links j k i m l here there =
    elim (cases_order k m) [
      | inl same ↦
          let below : cells_below links k ≡ cells_below links m = ap (cells_below links) same in
          (same, omega (arith, here.is, there.is, below))
      | inr (inl before) ↦ absurd (not_later links j k i m l here there before)
      | inr (inr after) ↦ absurd (not_later links j m l k i there here after)
    ]

-- a place is within the network
pub place_within : (links : List RawLink) (j k i : ℕ) → IsAt links j k i → j < cells_below links (length links)
place_within links j k i here = omega (arith, here.cell, here.is, next_is_few links k here.link)

-- the cells of a network
abbrev pub cells_of : RawNet → List Cell
cells_of raw = cells_of_links raw.steps raw.signals raw.links (length raw.links)

-- the cells of link k are as many as the link has
length-cells_at : (raw : RawNet) (k : ℕ) → length (cells_at raw.steps raw.signals raw.links k) ≡ cell_count (raw_link raw.links k)
length-cells_at raw k =
    let link = raw_link raw.links k in
    length-cells_of_link raw.steps (cells_below raw.links k) (out_by raw.links link.to link.turns) (gate_of raw.signals link) link

-- as many cells as the links become
pub length-cells_before : (raw : RawNet) (k : ℕ) → length (cells_of_links raw.steps raw.signals raw.links k) ≡ cells_below raw.links k
unfolding cells_of_links
length-cells_before raw k = length-join_below k (cells_at raw.steps raw.signals raw.links) (λ m. cell_count (raw_link raw.links m)) (length-cells_at raw)

pub length-cells_of : (raw : RawNet) → length (cells_of raw) ≡ cells_below raw.links (length raw.links)
length-cells_of raw = length-cells_before raw (length raw.links)

-- link k is fit
pub link_is_fit : (raw : RawNet) (k : ℕ) → IsInRange raw → HasNoFault raw → k < length raw.links → IsFit raw.steps (raw_link raw.links k)
link_is_fit raw k in_range fine within = record {
  in_range = in_range.each_link k _ within;
  light = λ t there. step_is_light raw k t fine within there;
  room = λ i inner. has_room raw k i fine within inner;
}

-- cell j keeps what a cell of its link keeps
pub cell_is_link_cell : (raw : RawNet) (j k i : ℕ) → IsInRange raw → HasNoFault raw → IsAt raw.links j k i →
    IsLinkCell raw.steps (cells_below raw.links k) (out_by raw.links (raw_link raw.links k).to (raw_link raw.links k).turns) (gate_of raw.signals (raw_link raw.links k)) (raw_link raw.links k) i (cell_of (cells_of raw) j)
unfolding cells_of_links
cell_is_link_cell raw j k i in_range fine here =
    let link = raw_link raw.links k in
    let is : cell_of (cells_of raw) j ≡ cell_of (cells_at raw.steps raw.signals raw.links k) i =
    ap (cell_of (cells_of raw)) here.is
    ∙ get_or-join_below (length raw.links) (cells_at raw.steps raw.signals raw.links) (λ m. cell_count (raw_link raw.links m)) k i no_cell (length-cells_at raw) here.link here.cell in
    rw is (cell_of-cells_of_link raw.steps (cells_below raw.links k) (out_by raw.links link.to link.turns) (gate_of raw.signals link) link i (link_is_fit raw k in_range fine here.link) here.cell)

-- the first road cell of a link
pub road_place : (raw : RawNet) (k : ℕ) → IsInRange raw → k < length raw.links → IsAt raw.links (first_road raw.links k) k (queue_count (raw_link raw.links k).pieces)
road_place raw k in_range within = record {
  link = within;
  cell = let limits : IsLinkInRange (raw_link raw.links k) = in_range.each_link k _ within in omega (arith, limits.cells);
  is = refl;
}

-- no link, and one more
pub cells_none : (raw : RawNet) → [] ≡ cells_of_links raw.steps raw.signals raw.links 0
unfolding cells_of_links join_below
cells_none raw = refl

-- the steps of a walk over the demands of links
pub ruleset demand_steps = (cells_none, get_or_read, get_or-map, length-map)

cells_more : (raw : RawNet) (k : ℕ) → cells_of_links raw.steps raw.signals raw.links (k + 1) ≡ cells_of_links raw.steps raw.signals raw.links k ++ cells_at raw.steps raw.signals raw.links k
unfolding cells_of_links
cells_more raw k = join_below-suc k (cells_at raw.steps raw.signals raw.links)

-- the cells of link k behind those of the links before it
pub link_is_added : (raw : RawNet) (k : ℕ) (before all : List Cell) → before ≡ cells_of_links raw.steps raw.signals raw.links k →
    all ≡ before ++ cells_of_link raw.steps (length before) (out_by raw.links (raw_link raw.links k).to (raw_link raw.links k).turns) (gate_of raw.signals (raw_link raw.links k)) (raw_link raw.links k) →
    all ≡ cells_of_links raw.steps raw.signals raw.links (k + 1)
link_is_added raw k before all is added =
    let count : length before ≡ cells_below raw.links k = ap length is ∙ length-cells_before raw k in
    let link = raw_link raw.links k in
    added ∙ ap (λ first. before ++ cells_of_link raw.steps first (out_by raw.links link.to link.turns) (gate_of raw.signals link) link) count
    ∙ ap (λ cells. cells ++ cells_at raw.steps raw.signals raw.links k) is ∙ sym (cells_more raw k)

-- the cells up to link k are few
pub link_is_few : (raw : RawNet) (k : ℕ) → HasNoFault raw → k < length raw.links → length (cells_of_links raw.steps raw.signals raw.links k) + cell_count (raw_link raw.links k) ≤ 256
link_is_few raw k fine within =
    omega (arith, length-cells_before raw k, cells_are_few raw fine, next_is_few raw.links k within)

-- a link that names a signal finds one
pub has_signals : (raw : RawNet) (k : ℕ) → HasNoFault raw → k < length raw.links → (raw_link raw.links k).signal ≢ None → 0 < length raw.signals
has_signals raw k fine within gated = signals_are_there raw.signals raw.links tt (rw fine.unknown_signal refl) k no_link within gated

-- what adding a link asks and does
pub ruleset link_steps = (has_no_fault, has_signals, link_is_few, length-queued, cells_behind, link_is_added)
