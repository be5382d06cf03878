-- Laws of what the cells hold from step to step: a road cell at most its storage, a queue at most the
-- demand so far.
use Rattle.std.proofs.Common.{◌≡◌, ℕ, zero, suc, ◌+◌, ◌<◌, ◌≤◌, List, length, slice_index, refl, ap, arith, add-one}
use Rattle.ct_base.specs.Access.{cell_of}
use Rattle.listed.specs.Below.{sum_below}
use Rattle.ct_base.specs.Validity.{IsValid, IsOfKind}
use Rattle.ct_base.specs.declared.cell.Cell.{Cell}
use Rattle.ct_base.specs.declared.cell.Kind.{Kind}
use Rattle.ct_base.specs.declared.cell.Kind.TheVariants.{Queue, Road}
use Rattle.ct_base.specs.declared.net.Net.{Net}
use Rattle.ct_base.specs.declared.plan.Letter.{Letter}
use Rattle.listed.proofs.SumLaws.{sum_below-suc}
use Rattle.listed.proofs.TableLaws.{length-table_of, slice_index-table_of}
use Rattle.traffic_model.specs.Flow.{inflow}
use Rattle.traffic_model.specs.Occupancy.{AreHeld, demand_at, initial_units, most_held, next_of, next_units, occupancies}
use Rattle.traffic_model.proofs.InflowLaws.{inflow_fits, inflow_of_queue, road_of}

-- ---- the lists of units

-- at step 0 there is one number per cell
pub length-initial_units : (cells : List Cell) → length (initial_units cells) ≡ length cells
unfolding initial_units
length-initial_units cells = length-table_of (length cells) (λ i. (cell_of cells i).initial)

-- what a cell holds at step 0
pub initial_units-at : (cells : List Cell) (i : ℕ) → i < length cells → slice_index (initial_units cells) i ≡ (cell_of cells i).initial
unfolding initial_units
initial_units-at cells i within = slice_index-table_of (length cells) (λ k. (cell_of cells k).initial) i within

-- after a step there is one number per cell
pub length-next_units : (cells : List Cell) (letters : List Letter) (t : ℕ) (units : List ℕ) → length (next_units cells letters t units) ≡ length cells
unfolding next_units
length-next_units cells letters t units = length-table_of (length cells) (next_of cells letters t units)

-- what a cell holds after a step
pub next_units-at : (cells : List Cell) (letters : List Letter) (t : ℕ) (units : List ℕ) (i : ℕ) → i < length cells →
    slice_index (next_units cells letters t units) i ≡ next_of cells letters t units i
unfolding next_units
next_units-at cells letters t units i within = slice_index-table_of (length cells) (next_of cells letters t units) i within

-- what the cells hold at step 0
pub occupancies-zero : (cells : List Cell) (letters : ℕ → List Letter) → occupancies cells letters 0 ≡ initial_units cells
unfolding occupancies
occupancies-zero cells letters = refl

-- what the cells hold a step later
pub occupancies-suc : (cells : List Cell) (letters : ℕ → List Letter) (t : ℕ) →
    occupancies cells letters (t + 1) ≡ next_units cells (letters t) t (occupancies cells letters t)
unfolding occupancies
occupancies-suc cells letters t = rw add-one

-- at every step there is one number per cell
pub length-occupancies : (cells : List Cell) (letters : ℕ → List Letter) (t : ℕ) → length (occupancies cells letters t) ≡ length cells
unfolding occupancies
length-occupancies cells letters zero = length-initial_units cells
length-occupancies cells letters (suc t) = length-next_units cells (letters t) t (occupancies cells letters t)

-- ---- one step

-- nothing arrives at a road cell from outside
pub demand_of_road : (net : Net) (j t : ℕ) → IsValid net → j < length net.cells → (cell_of net.cells j).kind ≡ Road → demand_at (cell_of net.cells j) t ≡ 0
demand_of_road net j t valid within is_road = ap (λ units. slice_index units t) (road_of net j valid within is_road).demand

-- what a cell holds after a step, by its kind
module _ (net : Net) (letters : List Letter) (t : ℕ) (units : List ℕ) (j : ℕ) (valid : IsValid net) (held : AreHeld net.cells t units) (within : j < length net.cells) where
  -- a road cell holds at most its storage
  next_of_road : (cell_of net.cells j).kind ≡ Road → next_of net.cells letters t units j ≤ (cell_of net.cells j).store
  unfolding next_of
  next_of_road is_road =
      let fits : inflow net.cells letters units j + slice_index units j ≤ (cell_of net.cells j).store = inflow_fits net letters t units j valid held within is_road in
      let none : demand_at (cell_of net.cells j) t ≡ 0 = demand_of_road net j t valid within is_road in
      omega arith

  -- a queue holds at most the demand so far
  next_of_queue : (cell_of net.cells j).kind ≡ Queue → next_of net.cells letters t units j ≤ sum_below (t + 1) (demand_at (cell_of net.cells j))
  unfolding next_of
  next_of_queue is_queue =
      let none : inflow net.cells letters units j ≡ 0 = inflow_of_queue net letters units j valid is_queue in
      let so_far : slice_index units j ≤ sum_below t (demand_at (cell_of net.cells j)) = rw is_queue at (held.each j within) in
      let more : sum_below (t + 1) (demand_at (cell_of net.cells j)) ≡ sum_below t (demand_at (cell_of net.cells j)) + demand_at (cell_of net.cells j) t = sum_below-suc t (demand_at (cell_of net.cells j)) in
      omega arith

  -- so a cell of either kind holds what it can
  next_of_kind : (kind : Kind) → (cell_of net.cells j).kind ≡ kind → next_of net.cells letters t units j ≤ most_held kind (cell_of net.cells j) (t + 1)
  next_of_kind Road is = next_of_road is
  next_of_kind Queue is = next_of_queue is

-- what the cells can hold at a step, they can hold after it
pub AreHeld-next_units : (net : Net) (letters : List Letter) (t : ℕ) (units : List ℕ) →
    IsValid net → AreHeld net.cells t units → AreHeld net.cells (t + 1) (next_units net.cells letters t units)
AreHeld-next_units net letters t units valid held = record {
  one_per_cell = length-next_units net.cells letters t units;
  each = λ j within.
      rw (next_units-at net.cells letters t units j within) (next_of_kind net letters t units j valid held within (cell_of net.cells j).kind refl);
}

-- ---- a run

-- what the cells hold at step 0 they can hold
initial_of_kind : (steps : ℕ) (kind : Kind) (cell : Cell) → IsOfKind kind steps cell → cell.initial ≤ most_held kind cell 0
initial_of_kind steps Road cell valid = valid.initial
initial_of_kind steps Queue cell valid = omega (arith, valid.initial)

-- so the cells hold what they can at step 0
pub AreHeld-initial_units : (net : Net) → IsValid net → AreHeld net.cells 0 (initial_units net.cells)
AreHeld-initial_units net valid = record {
  one_per_cell = length-initial_units net.cells;
  each = λ j within. rw (initial_units-at net.cells j within) (initial_of_kind net.steps (cell_of net.cells j).kind (cell_of net.cells j) (valid.each_cell j within).kind);
}

-- at every step of a run the cells hold what they can
pub AreHeld-occupancies : (net : Net) (letters : ℕ → List Letter) (t : ℕ) → IsValid net → AreHeld net.cells t (occupancies net.cells letters t)
unfolding occupancies
AreHeld-occupancies net letters zero valid = AreHeld-initial_units net valid
AreHeld-occupancies net letters (suc t) valid =
    let later : AreHeld net.cells (t + 1) (next_units net.cells (letters t) t (occupancies net.cells letters t)) =
    AreHeld-next_units net (letters t) t (occupancies net.cells letters t) valid (AreHeld-occupancies net letters t valid) in
    rw add-one at later
