-- The row that is added for what a cell holds in the next step is the network's, and it fits into a program.
use Rattle.std.proofs.Common.{◌≡◌, inl, inr, ℕ, zero, suc, ◌+◌, ◌*◌, ◌<◌, ◌≤◌, List, [], ◌∷◌, ◌++◌, length, get_or, filter, map, All, Bool, true, false, cond, not, eqb, refl, ap, subst, ◌∙◌, sym, arith}
use Rattle.std.specs.Prelude.{ℤ, pos, neg_ℤ, ◌+ℤ◌, ◌-ℤ◌, ◌*ℤ◌, unsigned_abs, nat_lt}
use Rattle.std.proofs.lemmas.Int.{ints}
use Rattle.std.proofs.lemmas.Bool.{cases_Bool, ltb-false, ltb-true}
use Rattle.std.proofs.lemmas.List.Elements.{All-head, All-tail}
use Rattle.std.proofs.lemmas.List.Sums.{sum_by-cons}
use Rattle.std.proofs.lemmas.List.{get_or_past, map-append}
use Rattle.std.proofs.Math.IntN.{*ℤ-one, *ℤ-zero, negsuc-*ℤ-pos}
use Rattle.listed.specs.Below.{table_of}
use Rattle.listed.proofs.SumLaws.{sum_below-zero}
use Rattle.ct_base.specs.Access.{cell_of, parcel}
use Rattle.ct_base.specs.Validity.{IsBetween, IsCell, IsOfKind, IsSplit, IsValid}
use Rattle.ct_base.specs.declared.cell.Cell.{Cell}
use Rattle.ct_base.specs.declared.cell.Kind.{Kind}
use Rattle.ct_base.specs.declared.cell.Kind.TheVariants.{Queue, Road}
use Rattle.ct_base.specs.declared.cell.Out.{Out}
use Rattle.ct_base.specs.declared.cell.Out.TheVariants.{Exit, To, Turns}
use Rattle.ct_base.specs.declared.net.Net.{Net}
use Rattle.traffic_model.specs.Flow.{parcel_to, share, units_of_flow}
use Rattle.traffic_model.specs.Occupancy.{demand_at}
use Rattle.sparse_program.specs.Program.{row_from}
use Rattle.sparse_program.specs.Terms.{nonzero, rising, weight}
use Rattle.sparse_program.specs.declared.row.Row.{Row}
use Rattle.program_model.specs.Columns.{Column, Flow, Units, columns, columns_of_cell}
use Rattle.program_model.specs.Existence.{IsPlace}
use Rattle.program_model.specs.FlowRows.{conservation_row}
use Rattle.program_model.specs.Numbers.{cells_before, first_column, number_of}
use Rattle.program_model.specs.Sparse.{by_number, sparse}
use Rattle.lo_program.specs.inner.Flows.{ConservationFits, brings, conservation_terms, feeder, feeders_of, flow_place, leaving_terms}
use Rattle.program_model.proofs.ColumnLaws.{Each, Each-at, Each-map, Each-table_of}
use Rattle.program_model.proofs.PlaceLaws.{column_stands}
use Rattle.program_model.proofs.RowColumns.{each-filter}
use Rattle.lo_program.proofs.FeederLaws.{length-leaving}
use Rattle.lo_program.proofs.FewFeeders.{few_feeders}
use Rattle.lo_program.proofs.LeftOut.{nonzero-nonzero, nonzero-rising-same}

-- ---- where the flows of a step stand

-- the columns of a step begin with those of its first cell
pub first_column-place : (net : Net) (t j : ℕ) → first_column net t j ≡ first_column net t 0 + cells_before net.cells j
unfolding first_column
first_column-place net t j =
    let none : cells_before net.cells 0 ≡ 0 = sum_below-zero (λ k. length (columns_of_cell net.cells 0 k)) in
    omega (arith, none)

pub flow-place : (net : Net) (t j : ℕ) → number_of net (Flow t j) ≡ first_column net t 0 + flow_place net.cells j
flow-place net t j = omega (arith, first_column-place net t j)

-- ---- moves that bring nothing are left out

abs_neg : (n : ℕ) → unsigned_abs (neg_ℤ (pos n)) ≡ n
abs_neg n = omega (arith, ints)

nonzero-leaving : (first : ℕ) (feeders : List (ℕ × ℕ)) → nonzero (leaving_terms first feeders) ≡ leaving_terms first (filter brings feeders)
nonzero-leaving first [] = refl
nonzero-leaving first (f ∷ feeders) =
    elim (cases_Bool (eqb f.1 0)) [
      | inl none ↦ rw (abs_neg f.1, none) (nonzero-leaving first feeders)
      | inr some ↦ rw (abs_neg f.1, some) (ap (λ (terms : List (ℕ × ℤ)). (first + f.0, neg_ℤ (pos f.1)) ∷ terms) (nonzero-leaving first feeders))
    ]

-- the terms before them stay
nonzero-before : (term : ℕ × ℤ) (xs ys : List (ℕ × ℤ)) → nonzero xs ≡ nonzero ys → nonzero (term ∷ xs) ≡ nonzero (term ∷ ys)
nonzero-before term xs ys same = ap (λ zs. cond (not (eqb (unsigned_abs term.1) 0)) (term ∷ zs) zs) same

-- ---- what enters a cell

entering_is : (net : Net) (t i n : ℕ) →
    by_number (number_of net) (map (λ (term : Column × ℤ). (term.0, neg_ℤ (pos 1) *ℤ term.1)) (table_of n (λ j. (Flow t j, pos (share (cell_of net.cells j).out i)))))
    ≡ leaving_terms (first_column net t 0) (table_of n (feeder net.cells i))
unfolding table_of
entering_is net t i zero = refl
entering_is net t i (suc n) =
    let less : Column × ℤ → Column × ℤ = λ (term : Column × ℤ). (term.0, neg_ℤ (pos 1) *ℤ term.1) in
    let named : Column × ℤ → ℕ × ℤ = λ (term : Column × ℤ). (number_of net term.0, term.1) in
    let leaves : ℕ × ℕ → ℕ × ℤ = λ (f : ℕ × ℕ). (first_column net t 0 + f.0, neg_ℤ (pos f.1)) in
    let some : List (Column × ℤ) = table_of n (λ j. (Flow t j, pos (share (cell_of net.cells j).out i))) in
    let last : Column × ℤ = (Flow t n, pos (share (cell_of net.cells n).out i)) in
    let left : map named (map less (some ++ last ∷ [])) ≡ map named (map less some) ++ named (less last) ∷ [] = ap (map named) (map-append less some (last ∷ [])) ∙ map-append named (map less some) (less last ∷ []) in
    let right : map leaves (table_of n (feeder net.cells i) ++ feeder net.cells i n ∷ []) ≡ map leaves (table_of n (feeder net.cells i)) ++ leaves (feeder net.cells i n) ∷ [] = map-append leaves (table_of n (feeder net.cells i)) (feeder net.cells i n ∷ []) in
    let coefficient : neg_ℤ (pos 1) *ℤ pos (share (cell_of net.cells n).out i) ≡ neg_ℤ (pos (share (cell_of net.cells n).out i)) = negsuc-*ℤ-pos 0 (share (cell_of net.cells n).out i) ∙ ap (λ k. neg_ℤ (pos k)) (omega arith) in
    let here : named (less last) ≡ leaves (feeder net.cells i n) = rw (flow-place net t n, coefficient) refl in
    left ∙ rw (entering_is net t i n, here) (sym right)

-- a number taken once
times_one : (n : ℕ) → pos n *ℤ pos 1 ≡ pos n
unfolding lib.IntN.one
times_one n = *ℤ-one (pos n)

-- ---- the row

-- as the program holds it
pub conservation_is : (net : Net) (t i : ℕ) →
    row_from true (pos (demand_at (cell_of net.cells i) t)) (record { constant = pos 0; terms = rising (conservation_terms (number_of net (Units (t + 1) i)) (number_of net (Units t i)) (number_of net (Flow t i), pos (units_of_flow (cell_of net.cells i).out)) (leaving_terms (first_column net t 0) (feeders_of net.cells i))) })
    ≡ sparse (number_of net) (conservation_row net.cells t i)
conservation_is net t i =
    let units : ℕ = units_of_flow (cell_of net.cells i).out in
    let demand : ℤ = pos (demand_at (cell_of net.cells i) t) in
    let next : ℕ × ℤ = (number_of net (Units (t + 1) i), pos 1) in
    let held : ℕ × ℤ = (number_of net (Units t i), neg_ℤ (pos 1)) in
    let flow : ℕ × ℤ = (number_of net (Flow t i), pos units) in
    let all : List (ℕ × ℕ) = table_of (length net.cells) (feeder net.cells i) in
    let first : ℕ = first_column net t 0 in
    let few : List (ℕ × ℤ) = leaving_terms first (filter brings all) in
    let some : nonzero few ≡ nonzero (leaving_terms first all) = ap nonzero (sym (nonzero-leaving first all)) ∙ nonzero-nonzero (leaving_terms first all) in
    let same : nonzero (next ∷ held ∷ flow ∷ few) ≡ nonzero (next ∷ held ∷ flow ∷ leaving_terms first all) =
    nonzero-before next (held ∷ flow ∷ few) (held ∷ flow ∷ leaving_terms first all)
    (nonzero-before held (flow ∷ few) (flow ∷ leaving_terms first all) (nonzero-before flow few (leaving_terms first all) some)) in
    let terms : nonzero (rising (next ∷ held ∷ flow ∷ few)) ≡ nonzero (rising (by_number (number_of net) (conservation_row net.cells t i).sum.terms)) =
    nonzero-rising-same (next ∷ held ∷ flow ∷ few) (next ∷ held ∷ flow ∷ leaving_terms first all) same
    ∙ ap (λ (z : ℤ). nonzero (rising (next ∷ held ∷ (number_of net (Flow t i), z) ∷ leaving_terms first all))) (sym (times_one units))
    ∙ ap (λ (xs : List (ℕ × ℤ)). nonzero (rising (next ∷ held ∷ (number_of net (Flow t i), pos units *ℤ pos 1) ∷ xs))) (sym (entering_is net t i (length net.cells))) in
    let constant : (conservation_row net.cells t i).sum.constant ≡ pos 0 = ap (λ (z : ℤ). (pos 0 +ℤ neg_ℤ (pos 1) *ℤ pos 0) +ℤ (z +ℤ neg_ℤ (pos 1) *ℤ pos 0)) (*ℤ-zero (pos units)) in
    let made : List (ℕ × ℤ) → ℤ → Row = λ (xs : List (ℕ × ℤ)) (z : ℤ). record { equal = true; rhs = demand -ℤ z; terms = xs } in
    ap (λ (xs : List (ℕ × ℤ)). made xs (pos 0)) terms ∙ ap (made (nonzero (rising (by_number (number_of net) (conservation_row net.cells t i).sum.terms)))) (sym constant)

-- ---- its numbers

-- a parcel has at most 100 units a branch
parcel_small : (branches : List (ℕ × ℕ)) → All (λ (branch : ℕ × ℕ). IsBetween 1 100 branch.1) branches → parcel branches ≤ 100 * length branches
parcel_small [] each = omega arith
parcel_small (branch ∷ branches) each =
    let P : ℕ × ℕ → Type 0 = λ (branch : ℕ × ℕ). IsBetween 1 100 branch.1 in
    rw (sum_by-cons (λ (b : ℕ × ℕ). b.1) branch branches) (omega (arith, (All-head P branch branches each).1, parcel_small branches (All-tail P branch branches each)))

pub units_small : (out : Out) → IsSplit out → units_of_flow out ≤ 400
units_small Exit split = omega arith
units_small (To b) split = omega arith
units_small (Turns branches) split = omega (arith, parcel_small branches split.2, split.0.1)

-- a cell gets at most what leaves
admitted : (test : Bool) (n : ℕ) → cond test n 0 ≤ n
admitted true n = omega arith
admitted false n = omega arith

parcel_to-le : (j : ℕ) (branches : List (ℕ × ℕ)) → parcel_to j branches ≤ parcel branches
parcel_to-le j [] = omega arith
parcel_to-le j (branch ∷ branches) = rw (sum_by-cons (λ (b : ℕ × ℕ). b.1) branch branches) (omega (arith, parcel_to-le j branches, admitted (eqb branch.0 j) branch.1))

share-le : (out : Out) (j : ℕ) → share out j ≤ units_of_flow out
share-le Exit j = omega arith
share-le (To b) j = admitted (eqb b j) 1
share-le (Turns branches) j = parcel_to-le j branches

-- at most 1000 units arrive in a step
pub demand_small : (steps t : ℕ) (kind : Kind) (cell : Cell) → IsOfKind kind steps cell → demand_at cell t ≤ 1000
demand_small steps t Queue cell is =
    elim (cases_Bool (nat_lt t (length cell.demand))) [
      | inl inside ↦ is.demand_in_range t 0 (ltb-true t (length cell.demand) inside)
      | inr outside ↦
          let none : get_or cell.demand t 0 ≡ 0 = get_or_past cell.demand t 0 (ltb-false t (length cell.demand) outside) in
          omega (arith, none)
    ]
demand_small steps t Road cell is = rw is.demand (omega arith)

-- moves that bring few units each weigh little together
weight-leaving : (first : ℕ) (feeders : List (ℕ × ℕ)) → Each (λ (f : ℕ × ℕ). f.1 ≤ 400) feeders → weight (leaving_terms first feeders) ≤ 400 * length feeders
weight-leaving first [] each = omega arith
weight-leaving first (f ∷ feeders) each = omega (arith, abs_neg f.1, each.0, weight-leaving first feeders each.1)

-- the row fits
pub conservation_fits : (net : Net) (t i : ℕ) → IsValid net → t + 1 < net.steps → i < length net.cells →
    ConservationFits (length (columns net)) (number_of net (Units (t + 1) i)) (number_of net (Units t i)) (number_of net (Flow t i), pos (units_of_flow (cell_of net.cells i).out)) (leaving_terms (first_column net t 0) (feeders_of net.cells i)) (pos (demand_at (cell_of net.cells i) t))
conservation_fits net t i valid before inside =
    let n : ℕ = length net.cells in
    let first : ℕ = first_column net t 0 in
    let cell : IsCell net i (cell_of net.cells i) = valid.each_cell i inside in
    let IsThere : ℕ × ℤ → Type 0 = λ (term : ℕ × ℤ). term.0 < length (columns net) in
    let here : IsPlace net t i = record { before = omega (arith, before); inside = inside } in
    let next : IsPlace net (t + 1) i = record { before = before; inside = inside } in
    let flow_there : (j : ℕ) → j < n → first + flow_place net.cells j < length (columns net) =
    λ j within. subst (λ (number : ℕ). number < length (columns net)) (flow-place net t j) (column_stands net (Flow t j) (Flow t j) (record { before = omega (arith, before); inside = within })).0 in
    let feeders_there : Each IsThere (leaving_terms first (feeders_of net.cells i)) =
    Each-map IsThere (λ (f : ℕ × ℕ). (first + f.0, neg_ℤ (pos f.1))) (feeders_of net.cells i)
    (each-filter (λ (f : ℕ × ℕ). first + f.0 < length (columns net)) brings (table_of n (feeder net.cells i))
    (Each-table_of (λ (f : ℕ × ℕ). first + f.0 < length (columns net)) n (feeder net.cells i) flow_there)) in
    let each_there : Each IsThere (conservation_terms (number_of net (Units (t + 1) i)) (number_of net (Units t i)) (number_of net (Flow t i), pos (units_of_flow (cell_of net.cells i).out)) (leaving_terms first (feeders_of net.cells i))) =
    ((column_stands net (Units (t + 1) i) (Units (t + 1) i) next).0, ((column_stands net (Units t i) (Units t i) here).0, ((column_stands net (Flow t i) (Flow t i) here).0, feeders_there))) in
    let few_units : Each (λ (f : ℕ × ℕ). f.1 ≤ 400) (feeders_of net.cells i) =
    each-filter (λ (f : ℕ × ℕ). f.1 ≤ 400) brings (table_of n (feeder net.cells i))
    (Each-table_of (λ (f : ℕ × ℕ). f.1 ≤ 400) n (feeder net.cells i)
    (λ j within. omega (arith, share-le (cell_of net.cells j).out i, units_small (cell_of net.cells j).out (valid.each_cell j within).split))) in
    record {
      there = λ k d within. Each-at IsThere (conservation_terms (number_of net (Units (t + 1) i)) (number_of net (Units t i)) (number_of net (Flow t i), pos (units_of_flow (cell_of net.cells i).out)) (leaving_terms first (feeders_of net.cells i))) k d each_there within;
      few = omega (arith, length-leaving first (feeders_of net.cells i), few_feeders net i valid);
      light = omega (arith, weight-leaving first (feeders_of net.cells i) few_units, few_feeders net i valid);
      units = units_small (cell_of net.cells i).out cell.split;
      arrivals = demand_small net.steps t (cell_of net.cells i).kind (cell_of net.cells i) cell.kind;
    }

-- ---- by other names

-- the row by the numbers that the code has for its columns
pub same_row : (net : Net) (t i next held first place : ℕ) (units demand : ℤ) (feeders : List (ℕ × ℕ)) → next ≡ first_column net (t + 1) i → held ≡ first_column net t i → first ≡ first_column net t 0 → place ≡ flow_place net.cells i →
    units ≡ pos (units_of_flow (cell_of net.cells i).out) → feeders ≡ feeders_of net.cells i → demand ≡ pos (demand_at (cell_of net.cells i) t) →
    row_from true demand (record { constant = pos 0; terms = rising (conservation_terms next held (first + place, units) (leaving_terms first feeders)) }) ≡ sparse (number_of net) (conservation_row net.cells t i)
same_row net t i next held first place units demand feeders is_next is_held is_first is_place is_units is_feeders is_demand =
    let flow : first + place ≡ number_of net (Flow t i) = ap (λ n. n + place) is_first ∙ ap (λ n. first_column net t 0 + n) is_place ∙ sym (flow-place net t i) in
    ap (λ (n : ℕ). row_from true demand (record { constant = pos 0; terms = rising (conservation_terms next held (n, units) (leaving_terms first feeders)) })) flow
    ∙ ap (λ (n : ℕ). row_from true demand (record { constant = pos 0; terms = rising (conservation_terms n held (number_of net (Flow t i), units) (leaving_terms first feeders)) })) is_next
    ∙ ap (λ (n : ℕ). row_from true demand (record { constant = pos 0; terms = rising (conservation_terms (first_column net (t + 1) i) n (number_of net (Flow t i), units) (leaving_terms first feeders)) })) is_held
    ∙ ap (λ (z : ℤ). row_from true demand (record { constant = pos 0; terms = rising (conservation_terms (first_column net (t + 1) i) (first_column net t i) (number_of net (Flow t i), z) (leaving_terms first feeders)) })) is_units
    ∙ ap (λ (n : ℕ). row_from true demand (record { constant = pos 0; terms = rising (conservation_terms (first_column net (t + 1) i) (first_column net t i) (number_of net (Flow t i), pos (units_of_flow (cell_of net.cells i).out)) (leaving_terms n feeders)) })) is_first
    ∙ ap (λ (fs : List (ℕ × ℕ)). row_from true demand (record { constant = pos 0; terms = rising (conservation_terms (first_column net (t + 1) i) (first_column net t i) (number_of net (Flow t i), pos (units_of_flow (cell_of net.cells i).out)) (leaving_terms (first_column net t 0) fs)) })) is_feeders
    ∙ ap (λ (z : ℤ). row_from true z (record { constant = pos 0; terms = rising (conservation_terms (first_column net (t + 1) i) (first_column net t i) (number_of net (Flow t i), pos (units_of_flow (cell_of net.cells i).out)) (leaving_terms (first_column net t 0) (feeders_of net.cells i))) })) is_demand
    ∙ conservation_is net t i

-- and it fits
pub same_fits : (net : Net) (count t i next held first place : ℕ) (units demand : ℤ) (feeders : List (ℕ × ℕ)) → IsValid net → t + 1 < net.steps → i < length net.cells → count ≡ length (columns net) →
    next ≡ first_column net (t + 1) i → held ≡ first_column net t i → first ≡ first_column net t 0 → place ≡ flow_place net.cells i →
    units ≡ pos (units_of_flow (cell_of net.cells i).out) → feeders ≡ feeders_of net.cells i → demand ≡ pos (demand_at (cell_of net.cells i) t) →
    ConservationFits count next held (first + place, units) (leaving_terms first feeders) demand
same_fits net count t i next held first place units demand feeders valid before inside is_count is_next is_held is_first is_place is_units is_feeders is_demand =
    let flow : first + place ≡ number_of net (Flow t i) = ap (λ n. n + place) is_first ∙ ap (λ n. first_column net t 0 + n) is_place ∙ sym (flow-place net t i) in
    let all = conservation_fits net t i valid before inside in
    subst (λ (n : ℕ). ConservationFits count next held (n, units) (leaving_terms first feeders) demand) (sym flow)
    (subst (λ (n : ℕ). ConservationFits n next held (number_of net (Flow t i), units) (leaving_terms first feeders) demand) (sym is_count)
    (subst (λ (n : ℕ). ConservationFits (length (columns net)) n held (number_of net (Flow t i), units) (leaving_terms first feeders) demand) (sym is_next)
    (subst (λ (n : ℕ). ConservationFits (length (columns net)) (first_column net (t + 1) i) n (number_of net (Flow t i), units) (leaving_terms first feeders) demand) (sym is_held)
    (subst (λ (z : ℤ). ConservationFits (length (columns net)) (first_column net (t + 1) i) (first_column net t i) (number_of net (Flow t i), z) (leaving_terms first feeders) demand) (sym is_units)
    (subst (λ (n : ℕ). ConservationFits (length (columns net)) (first_column net (t + 1) i) (first_column net t i) (number_of net (Flow t i), pos (units_of_flow (cell_of net.cells i).out)) (leaving_terms n feeders) demand) (sym is_first)
    (subst (λ (fs : List (ℕ × ℕ)). ConservationFits (length (columns net)) (first_column net (t + 1) i) (first_column net t i) (number_of net (Flow t i), pos (units_of_flow (cell_of net.cells i).out)) (leaving_terms (first_column net t 0) fs) demand) (sym is_feeders)
    (subst (λ (z : ℤ). ConservationFits (length (columns net)) (first_column net (t + 1) i) (first_column net t i) (number_of net (Flow t i), pos (units_of_flow (cell_of net.cells i).out)) (leaving_terms (first_column net t 0) (feeders_of net.cells i)) z) (sym is_demand) all)))))))

-- the flow's number is a column's
pub flow_below : (net : Net) (t i : ℕ) → t < net.steps → i < length net.cells → first_column net t 0 + flow_place net.cells i < length (columns net)
flow_below net t i before inside = subst (λ (number : ℕ). number < length (columns net)) (flow-place net t i) (column_stands net (Flow t i) (Flow t i) (record { before = before; inside = inside })).0
