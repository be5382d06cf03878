-- Laws of delay: a step more, and that a delay is small, since a cell holds at most the demand of a whole
-- run and there are few cells and steps.
use Rattle.std.proofs.Common.{◌≡◌, ℕ, ◌+◌, ◌-◌, ◌*◌, ◌^◌, ◌<◌, ◌≤◌, List, length, sum, slice_index, All, refl, inl, inr, arith}
use Rattle.std.proofs.lemmas.Bool.{cases_lt}
use Rattle.std.proofs.lemmas.List.{get_or_past}
use Rattle.ct_base.specs.Access.{cell_of}
use Rattle.listed.specs.Below.{sum_below}
use Rattle.ct_base.specs.Validity.{IsValid, IsOfKind}
use Rattle.ct_base.specs.declared.cell.Cell.{Cell}
use Rattle.ct_base.specs.declared.cell.Kind.{Kind}
use Rattle.ct_base.specs.declared.cell.Kind.TheVariants.{Queue, Road}
use Rattle.ct_base.specs.declared.net.Net.{Net}
use Rattle.ct_base.specs.declared.plan.Letter.{Letter}
use Rattle.listed.proofs.SumLaws.{sum_below-bound, sum_below-suc, sum_below-zero}
use Rattle.listed.proofs.TableLaws.{sum_by_index-long}
use Rattle.traffic_model.specs.Delay.{delay_of, left_of, step_delay}
use Rattle.traffic_model.specs.Flow.{outflow}
use Rattle.traffic_model.specs.Occupancy.{AreHeld, demand_at, most_held, occupancies}
use Rattle.traffic_model.proofs.HeldLaws.{AreHeld-occupancies}

-- ---- a run, step by step

-- no step has no delay
pub delay_of-zero : (cells : List Cell) (letters : ℕ → List Letter) → delay_of cells letters 0 ≡ 0
unfolding delay_of
delay_of-zero cells letters = sum_below-zero (λ t. step_delay cells (letters t) (occupancies cells letters t))

-- the delay of one step more
pub delay_of-suc : (cells : List Cell) (letters : ℕ → List Letter) (k : ℕ) →
    delay_of cells letters (k + 1) ≡ delay_of cells letters k + step_delay cells (letters k) (occupancies cells letters k)
unfolding delay_of
delay_of-suc cells letters k = sum_below-suc k (λ t. step_delay cells (letters t) (occupancies cells letters t))

-- the delay of a step, by its cells
pub step_delay-sum : (cells : List Cell) (letters : List Letter) (units : List ℕ) →
    step_delay cells letters units ≡ sum_below (length cells) (λ i. slice_index units i - outflow cells letters units i)
unfolding step_delay
step_delay-sum cells letters units = refl

-- the units in all cells
pub left_of-sum : (cells : List Cell) (letters : ℕ → List Letter) (k : ℕ) → left_of cells letters k ≡ sum (occupancies cells letters k)
unfolding left_of
left_of-sum cells letters k = refl

-- ---- limits

-- a number of a list of numbers up to a limit, or 0 past its end
number_within : (limit : ℕ) (xs : List ℕ) (k : ℕ) → All (λ x. x ≤ limit) xs → slice_index xs k ≤ limit
number_within limit xs k all =
    elim (cases_lt k (length xs)) [
      | inl within ↦ all k 0 within
      | inr past ↦ rw (get_or_past xs k 0 past) (omega arith)
    ]

-- within the steps of a run a cell holds at most 240000 units
most_held-le : (steps : ℕ) (kind : Kind) (cell : Cell) (t : ℕ) → IsOfKind kind steps cell → t ≤ 240 → most_held kind cell t ≤ 240000
most_held-le steps Road cell t valid few = omega (arith, valid.store)
most_held-le steps Queue cell t valid few =
    omega (arith, sum_below-bound t 1000 (demand_at cell) (λ k h. number_within 1000 cell.demand k valid.demand_in_range))

-- what a cell holds at a step of a run
pub held-le : (net : Net) (t : ℕ) (units : List ℕ) (i : ℕ) → IsValid net → AreHeld net.cells t units → t ≤ net.steps → i < length net.cells →
    slice_index units i ≤ 240000
held-le net t units i valid are_held within there =
    let held : slice_index units i ≤ most_held (cell_of net.cells i).kind (cell_of net.cells i) t = are_held.each i there in
    let most : most_held (cell_of net.cells i).kind (cell_of net.cells i) t ≤ 240000 =
    most_held-le net.steps (cell_of net.cells i).kind (cell_of net.cells i) t (valid.each_cell i there).kind (omega (arith, valid.steps)) in
    omega arith

-- what the first cells hold
pub held_so_far : (net : Net) (t : ℕ) (units : List ℕ) (m : ℕ) → IsValid net → AreHeld net.cells t units → t ≤ net.steps → m ≤ length net.cells →
    sum_below m (slice_index units) ≤ m * 240000
held_so_far net t units m valid held within few =
    sum_below-bound m 240000 (slice_index units) (λ i before. held-le net t units i valid held within (omega arith))

-- what all cells hold
pub sum_held-le : (net : Net) (t : ℕ) (units : List ℕ) → IsValid net → AreHeld net.cells t units → t ≤ net.steps → sum units ≤ 61440000
sum_held-le net t units valid held within =
    omega (arith, sum_by_index-long units (length net.cells) held.one_per_cell, held_so_far net t units (length net.cells) valid held within (omega arith), valid.cells)

-- the delay of a step in the first cells
pub step_delay_so_far : (net : Net) (letters : List Letter) (t : ℕ) (units : List ℕ) (m : ℕ) → IsValid net → AreHeld net.cells t units → t ≤ net.steps → m ≤ length net.cells →
    sum_below m (λ i. slice_index units i - outflow net.cells letters units i) ≤ m * 240000
step_delay_so_far net letters t units m valid held within few =
    sum_below-bound m 240000 (λ i. slice_index units i - outflow net.cells letters units i)
    (λ i before. omega (arith, held-le net t units i valid held within (omega arith)))

-- the delay of one step
pub step_delay-le : (net : Net) (letters : List Letter) (t : ℕ) (units : List ℕ) → IsValid net → AreHeld net.cells t units → t ≤ net.steps →
    step_delay net.cells letters units ≤ 61440000
unfolding step_delay
step_delay-le net letters t units valid held within =
    omega (arith, step_delay_so_far net letters t units (length net.cells) valid held within (omega arith), valid.cells)

-- the delay of the first steps
pub delay_of-le : (net : Net) (letters : ℕ → List Letter) (k : ℕ) → IsValid net → k ≤ net.steps → delay_of net.cells letters k ≤ k * 61440000
unfolding delay_of
delay_of-le net letters k valid within =
    sum_below-bound k 61440000 (λ t. step_delay net.cells (letters t) (occupancies net.cells letters t))
    (λ t before. step_delay-le net (letters t) t (occupancies net.cells letters t) valid (AreHeld-occupancies net letters t valid) (omega arith))

-- a delay is below 2 ^ 49
pub delay_of-lt : (net : Net) (letters : ℕ → List Letter) (k : ℕ) → IsValid net → k ≤ net.steps → delay_of net.cells letters k < 2 ^ 49
delay_of-lt net letters k valid within = omega (arith, delay_of-le net letters k valid within, valid.steps)
