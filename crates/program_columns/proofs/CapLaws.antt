-- The cap of a move, as the code finds it, and where its branches lead.
use Rattle.std.proofs.Common.{◌≡◌, inl, inr, ℕ, zero, suc, ◌*◌, ◌/◌, ◌<◌, ◌≤◌, slice_index, min, List, [], ◌∷◌, map, fold, length, All, refl, subst, arith}
use Rattle.std.proofs.lemmas.Bool.{cases_lt}
use Rattle.std.proofs.lemmas.List.{get_or-map, length-map}
use Rattle.std.proofs.Math.ListN.{get_or-eq_default}
use Rattle.listed.proofs.SumLaws.{sum_below-bound}
use Rattle.ct_base.specs.Access.{cell_of, parcel, targets}
use Rattle.ct_base.specs.Validity.{IsOfKind, IsValid}
use Rattle.ct_base.specs.declared.cell.Cell.{Cell}
use Rattle.ct_base.specs.declared.cell.Kind.{Kind}
use Rattle.ct_base.specs.declared.cell.Kind.TheVariants.{Queue, Road}
use Rattle.ct_base.specs.declared.cell.Out.{Out}
use Rattle.ct_base.specs.declared.cell.Out.TheVariants.{Turns}
use Rattle.ct_base.specs.declared.net.Net.{Net}
use Rattle.traffic_model.specs.Flow.{cap_of}
use Rattle.traffic_model.specs.Occupancy.{demand_at, most_held}
use Rattle.program_model.specs.Values.{most_units}
use Rattle.program_columns.specs.Columns.{arrived_before}
use Rattle.program_columns.specs.inner.Bounds.{cap_up_to}

-- the least of a number and of the caps, made one by one or as a list first
caps_as_list : (cells : List Cell) (most : ℕ) (branches : List (ℕ × ℕ)) →
    cap_up_to cells most branches ≡ fold min most (map (λ (branch : ℕ × ℕ). (cell_of cells branch.0).cap / branch.1) branches)
caps_as_list cells most [] = refl
caps_as_list cells most (branch ∷ branches) = caps_as_list cells (min most ((cell_of cells branch.0).cap / branch.1)) branches

-- the cap of a diverge
pub cap_of-split : (cells : List Cell) (cell : Cell) (out : Out) (branches : List (ℕ × ℕ)) → out ≡ Turns branches →
    cap_up_to cells (cell.cap / parcel branches) branches ≡ cap_of cells cell out
cap_of-split cells cell out branches is = rw is (caps_as_list cells (cell.cap / parcel branches) branches)

-- each branch leads into a cell
pub branches_lead : (n : ℕ) (out : Out) (branches : List (ℕ × ℕ)) → out ≡ Turns branches → All (λ k. k < n) (targets out) → All (λ (branch : ℕ × ℕ). branch.0 < n) branches
branches_lead n out branches is each =
    λ k d below.
    let among : All (λ b. b < n) (targets (Turns branches)) = subst (λ (o : Out). All (λ b. b < n) (targets o)) is each in
    subst (λ b. b < n) (get_or-map (λ (branch : ℕ × ℕ). branch.0) branches k d d.0 below) (among k d.0 (rw length-map below))

-- what a queue gets in a step
demand_small : (demand : List ℕ) (t : ℕ) → All (λ units. units ≤ 1000) demand → slice_index demand t ≤ 1000
demand_small demand t each =
    elim (cases_lt t (length demand)) [
      | inl inside ↦ each t 0 inside
      | inr past ↦ rw (get_or-eq_default demand 0 past) (omega arith)
    ]

-- what a cell may hold
held_small : (steps : ℕ) (kind : Kind) (cell : Cell) (t : ℕ) → IsOfKind kind steps cell → t ≤ 240 → most_held kind cell t ≤ 240000
held_small steps Road cell t valid few = omega (arith, valid.store)
held_small steps Queue cell t valid few = omega (arith, sum_below-bound t 1000 (demand_at cell) (λ k h. demand_small cell.demand k valid.demand_in_range))

-- what it holds at step 0
initial_small : (steps : ℕ) (kind : Kind) (cell : Cell) → IsOfKind kind steps cell → cell.initial ≤ 240000
initial_small steps Road cell valid = omega (arith, valid.store, valid.initial)
initial_small steps Queue cell valid = omega (arith, valid.initial)

-- the greatest units of a cell are small
pub units_small : (net : Net) (t i : ℕ) → IsValid net → t < net.steps → i < length net.cells → most_units (cell_of net.cells i) t ≤ 240000
units_small net zero i valid before inside = initial_small net.steps (cell_of net.cells i).kind (cell_of net.cells i) (valid.each_cell i inside).kind
units_small net (suc t) i valid before inside =
    held_small net.steps (cell_of net.cells i).kind (cell_of net.cells i) (suc t) (valid.each_cell i inside).kind (omega (arith, before, valid.steps.1))

-- what arrives at a cell in a step
arrives_small : (steps : ℕ) (kind : Kind) (cell : Cell) (t : ℕ) → IsOfKind kind steps cell → demand_at cell t ≤ 1000
arrives_small steps Road cell t valid = demand_small cell.demand t (rw valid.demand (λ k d inside. absurd (omega (arith, inside))))
arrives_small steps Queue cell t valid = demand_small cell.demand t valid.demand_in_range

-- what arrives in a step, and what has arrived before it, are small
pub arrivals_small : (net : Net) (t i : ℕ) → IsValid net → t < net.steps → i < length net.cells →
    (demand_at (cell_of net.cells i) t ≤ 1000) × (arrived_before net.cells t i ≤ t * 1000)
arrivals_small net t i valid before inside =
    let small : (k : ℕ) → demand_at (cell_of net.cells i) k ≤ 1000 = λ k. arrives_small net.steps (cell_of net.cells i).kind (cell_of net.cells i) k (valid.each_cell i inside).kind in
    (small t, sum_below-bound t 1000 (demand_at (cell_of net.cells i)) (λ k h. small k))
