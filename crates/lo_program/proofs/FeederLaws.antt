-- Moves into a cell, and where flows stand.
use Rattle.std.proofs.Common.{◌≡◌, inl, inr, ℕ, zero, suc, ◌+◌, ◌-◌, ◌*◌, ◌<◌, ◌≤◌, List, [], ◌∷◌, ◌++◌, length, get_or, take, drop, filter, true, ap, ◌∙◌, sym, arith}
use Rattle.std.specs.Prelude.{ℤ, pos, neg_ℤ, unsigned_abs, nat_eq, if◌then◌else◌}
use Rattle.std.proofs.lemmas.Int.{ints}
use Rattle.std.proofs.lemmas.Bool.{cases_Bool}
use Rattle.std.proofs.lemmas.List.Elements.{filter-append}
use Rattle.std.proofs.Math.Seq.{drop-cons}
use Rattle.std.proofs.lemmas.List.{get_or-map, length-map, take_more}
use Rattle.listed.specs.Below.{table_of}
use Rattle.listed.proofs.SumLaws.{sum_below-suc}
use Rattle.listed.proofs.TableLaws.{get_or-table_of, length-table_of, table_of-suc}
use Rattle.ct_base.specs.Access.{cell_of}
use Rattle.ct_base.specs.declared.cell.Cell.{Cell}
use Rattle.ct_base.specs.declared.net.Net.{Net}
use Rattle.traffic_model.specs.Flow.{parcel_to, share}
use Rattle.program_model.specs.Columns.{columns_of_cell, term_count}
use Rattle.program_model.specs.Numbers.{cells_before}
use Rattle.program_model.proofs.NumberLaws.{length-cell}
use Rattle.sparse_program.specs.Program.{IsRow, row_from}
use Rattle.sparse_program.specs.Terms.{inserted, rising, weight}
use Rattle.sparse_program.proofs.LawfulTerms.{AreTerms-nonzero, AreTerms-rising, length-nonzero, length-rising, weight-at, weight-rising}
use Rattle.lo_program.specs.inner.Flows.{ConservationFits, brings, conservation_terms, feeder, feeders_among, flow_place, leaving_terms}
use Rattle.program_layout.specs.Layout.{IsLayout}
use Rattle.program_layout.specs.declared.layout.Layout.{Layout}

-- ---- where flows stand

-- behind the flow of a cell stand its switches, and then the columns of the next cell
pub flow_place-next : (cells : List Cell) (i : ℕ) → cells_before cells (i + 1) ≡ flow_place cells i + 1 + term_count (cell_of cells i).out
flow_place-next cells i =
    let next : cells_before cells (i + 1) ≡ cells_before cells i + length (columns_of_cell cells 0 i) = sum_below-suc i (λ j. length (columns_of_cell cells 0 j)) in
    omega (arith, next, length-cell cells 0 i)

-- the columns of the cells before the next one, where there is a next one
pub before_next : (net : Net) (layout : Layout) (before : List ℕ) (i : ℕ) → IsLayout net layout → before ≡ layout.cells_before → i + 1 < length before → get_or before (i + 1) 0 ≡ cells_before net.cells (i + 1)
before_next net layout before i is same inside =
    let table : before ≡ table_of (length net.cells) (cells_before net.cells) = same ∙ is.cells_before in
    let long : length before ≡ length net.cells = ap length table ∙ length-table_of (length net.cells) (cells_before net.cells) in
    ap (λ xs. get_or xs (i + 1) 0) table ∙ get_or-table_of (length net.cells) (cells_before net.cells) (i + 1) 0 (omega (arith, inside, long))

-- and where there is none
pub before_end : (net : Net) (layout : Layout) (before : List ℕ) (i : ℕ) → IsLayout net layout → before ≡ layout.cells_before → i < length net.cells → length before ≤ i + 1 → layout.cells_of_step ≡ cells_before net.cells (i + 1)
before_end net layout before i is same inside last =
    let table : before ≡ table_of (length net.cells) (cells_before net.cells) = same ∙ is.cells_before in
    let long : length before ≡ length net.cells = ap length table ∙ length-table_of (length net.cells) (cells_before net.cells) in
    let all : length net.cells ≡ i + 1 = omega (arith, inside, long, last) in
    is.cells_of_step ∙ ap (cells_before net.cells) all

-- ---- moves into a cell

-- the units that one branch more takes to a cell
parcel_to-push : (j : ℕ) (branches : List (ℕ × ℕ)) (branch : ℕ × ℕ) → parcel_to j (branches ++ branch ∷ []) ≡ parcel_to j branches + (if nat_eq branch.0 j then branch.1 else 0)
parcel_to-push j [] branch = omega arith
parcel_to-push j (b ∷ branches) branch = omega (arith, parcel_to-push j branches branch)

pub parcel_to-more : (j : ℕ) (branches : List (ℕ × ℕ)) (k : ℕ) (d : ℕ × ℕ) → k < length branches → parcel_to j (take (k + 1) branches) ≡ parcel_to j (take k branches) + (if nat_eq (get_or branches k d).0 j then (get_or branches k d).1 else 0)
parcel_to-more j branches k d within = ap (parcel_to j) (take_more branches k d within) ∙ parcel_to-push j (take k branches) (get_or branches k d)

-- the moves of one cell more
pub feeders-more : (cells : List Cell) (n i : ℕ) → feeders_among cells (n + 1) i ≡ feeders_among cells n i ++ filter brings (feeder cells i n ∷ [])
feeders-more cells n i = ap (filter brings) (table_of-suc n (feeder cells i)) ∙ filter-append brings (table_of n (feeder cells i)) (feeder cells i n ∷ [])

-- ---- what leaves their cells

-- what terms weigh without the first of them
weight-drop : (k : ℕ) (terms : List (ℕ × ℤ)) → weight (drop k terms) ≤ weight terms
weight-drop zero terms = omega arith
weight-drop (suc k) [] = omega arith
weight-drop (suc k) (term ∷ terms) = omega (arith, weight-drop k terms)

-- one term before those that were inserted: how it is inserted, and that it is light enough
pub rising-before : (terms : List (ℕ × ℤ)) (k : ℕ) (d : ℕ × ℤ) → k < length terms →
    (rising (drop k terms) ≡ inserted (rising (drop (k + 1) terms)) (get_or terms k d)) × (weight (rising (drop (k + 1) terms)) + unsigned_abs (get_or terms k d).1 ≤ 2 * weight terms)
rising-before terms k d within =
    let next : suc k ≡ k + 1 = omega arith in (
      ap rising (drop-cons terms k d within ∙ ap (λ n. get_or terms k d ∷ drop n terms) next),
      omega (arith, weight-rising (drop (k + 1) terms), weight-drop (k + 1) terms, weight-at terms k d within),
    )

-- what a branch takes to a cell is at most all that it takes
pub units_within : (j : ℕ) (branch : ℕ × ℕ) → (if nat_eq branch.0 j then branch.1 else 0) ≤ branch.1
units_within j branch =
    elim (cases_Bool (nat_eq branch.0 j)) [
      | inl there ↦ rw there (omega arith)
      | inr other ↦ rw other (omega arith)
    ]

-- a move more
pub feeders-next : (cells : List Cell) (n i flow units : ℕ) (now : List (ℕ × ℕ)) → now ≡ feeders_among cells n i → flow ≡ flow_place cells n → units ≡ share (cell_of cells n).out i →
    now ++ filter brings ((flow, units) ∷ []) ≡ feeders_among cells (n + 1) i
feeders-next cells n i flow units now before at brought = rw (before, at, brought) (sym (feeders-more cells n i))

-- what leaves the cell of a move
pub leaving-at : (first : ℕ) (feeders : List (ℕ × ℕ)) (k : ℕ) → k < length feeders →
    get_or (leaving_terms first feeders) k (0, pos 0) ≡ (first + (get_or feeders k (0, 0)).0, neg_ℤ (pos (get_or feeders k (0, 0)).1))
leaving-at first feeders k within = get_or-map (λ (feeder : ℕ × ℕ). (first + feeder.0, neg_ℤ (pos feeder.1))) feeders k (0, 0) (0, pos 0) within

-- as many terms as moves
pub length-leaving : (first : ℕ) (feeders : List (ℕ × ℕ)) → length (leaving_terms first feeders) ≡ length feeders
length-leaving first feeders = length-map feeders (λ (feeder : ℕ × ℕ). (first + feeder.0, neg_ℤ (pos feeder.1)))

-- the term of a move is inserted before those of later moves
pub leaving-before : (first : ℕ) (feeders : List (ℕ × ℕ)) (done : ℕ) (term : ℕ × ℤ) (now : List (ℕ × ℤ)) → done < length feeders → term ≡ get_or (leaving_terms first feeders) (length feeders - 1 - done) (0, pos 0) →
    now ≡ rising (drop (length feeders - done) (leaving_terms first feeders)) →
    (weight now + unsigned_abs term.1 ≤ 2 * weight (leaving_terms first feeders)) × (inserted now term ≡ rising (drop (length feeders - (done + 1)) (leaving_terms first feeders)))
leaving-before first feeders done term now within is before =
    let k = length feeders - 1 - done in
    let place : length feeders - done ≡ k + 1 = omega (arith, within) in
    let same : length feeders - (done + 1) ≡ k = omega (arith, within) in
    let inside : k < length (leaving_terms first feeders) = omega (arith, within, length-leaving first feeders) in
    let rises = rising-before (leaving_terms first feeders) k (0, pos 0) inside in
    rw (is, before, place, same) (rises.1, sym rises.0)

-- the row of what a cell holds in the next step is lawful
pub conservation_is_row : (columns next held : ℕ) (flow : ℕ × ℤ) (entering : List (ℕ × ℤ)) (demand : ℤ) → ConservationFits columns next held flow entering demand →
    IsRow columns (row_from true demand (record { constant = pos 0; terms = rising (conservation_terms next held flow entering) }))
conservation_is_row columns next held flow entering demand fits =
    let terms = conservation_terms next held flow entering in
    record {
      terms = AreTerms-nonzero columns (rising terms) (AreTerms-rising columns terms fits.there (omega (arith, fits.light, fits.units)));
      few = omega (arith, length-nonzero (rising terms), length-rising terms, fits.few);
      rhs = omega (arith, ints, fits.arrivals);
    }
