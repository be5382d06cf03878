-- What the replay keeps from step to step: the units fit the cells, and one pass gives what the model says.
use Rattle.std.proofs.Common.{◌≡◌, ℕ, ◌+◌, ◌-◌, ◌*◌, ◌<◌, ◌≤◌, inl, inr, List, [], ◌∷◌, ◌++◌, length, get_or, slice_index, subst, ap, ◌∙◌, sym, arith}
use Rattle.std.proofs.Math.Nat.{mul-div_cancel_left}
use Rattle.std.proofs.lemmas.Bool.{cases_lt}
use Rattle.std.proofs.lemmas.List.{get_or_default, get_or_past, length-replicate}
use Rattle.std.proofs.lemmas.List.Sums.{get_or-le-sum_by}
use Rattle.listed.proofs.SumLaws.{sum_below-same}
use Rattle.listed.proofs.TableLaws.{length-table_of, slice_index-table_of, table_of-suc, table_of-same}
use Rattle.ct_base.specs.Access.{cell_of, no_cell, parcel}
use Rattle.listed.specs.Below.{table_of}
use Rattle.ct_base.specs.Validity.{IsSplit, IsValid}
use Rattle.ct_base.specs.declared.net.Net.{Net}
use Rattle.ct_base.specs.declared.cell.Cell.{Cell}
use Rattle.ct_base.specs.declared.cell.Kind.{Kind}
use Rattle.ct_base.specs.declared.cell.Out.{Out}
use Rattle.ct_base.specs.declared.cell.Out.TheVariants.{Exit, To, Turns}
use Rattle.ct_base.specs.declared.plan.Letter.{Letter}
use Rattle.traffic_model.proofs.TrafficLaws.{AreHeld-initial_units, AreHeld-next_units, held-le, outflow-le, outflow-le_cap, road_of}
use Rattle.traffic_model.specs.Flow.{flow, inflow, outflow, share, units_of_flow}
use Rattle.traffic_model.specs.Occupancy.{AreHeld, demand_at, most_held, next_of, next_units}
use Rattle.cell_replay.specs.Standing.{IsReplayOf, Standing, at_start, one_step_on}
use Rattle.cell_replay.specs.Asked.{Fit}
use Rattle.cell_replay.specs.inner.Moves.{entered, held_after, passed}

-- one cell more at the start
pub initial-more : (cells : List Cell) (i : ℕ) (items : List ℕ) (cell d : Cell) → i < length cells → cell ≡ get_or cells i d →
    items ≡ table_of i (λ k. (cell_of cells k).initial) → items ++ cell.initial ∷ [] ≡ table_of (i + 1) (λ k. (cell_of cells k).initial)
initial-more cells i items cell d within is before =
    let here : cell ≡ cell_of cells i = is ∙ get_or_default cells i d no_cell within in
    let first : items ++ cell.initial ∷ [] ≡ table_of i (λ k. (cell_of cells k).initial) ++ (cell_of cells i).initial ∷ [] = cc in
    first ∙ sym (table_of-suc i (λ k. (cell_of cells k).initial))

-- what is held fits the cells
pub fits : (net : Net) (t : ℕ) (units : List ℕ) → IsValid net → t ≤ net.steps → AreHeld net.cells t units → Fit net.cells units
fits net t units valid in_time held = record {
  one_per_cell = held.one_per_cell;
  roads = λ i within is_road. road_of net i valid within is_road;
  within = λ i within is_road.
      let most : slice_index units i ≤ most_held (cell_of net.cells i).kind (cell_of net.cells i) t = held.each i within in
      subst (λ (kind : Kind). slice_index units i ≤ most_held kind (cell_of net.cells i) t) is_road most;
  small = λ i.
      elim (cases_lt i (length units)) [
        | inl within ↦ held-le net t units i valid held in_time (omega (arith, held.one_per_cell))
        | inr past ↦ rw (get_or_past units i 0 past) (omega arith)
      ];
}

-- what leaves a cell by its out, at least one unit with one of flow
some_units : (out : Out) → IsSplit out → 1 ≤ units_of_flow out
some_units Exit split = omega arith
some_units (To b) split = omega arith
some_units (Turns branches) split =
    let first : (get_or branches 0 (0, 0)).1 ≤ parcel branches = get_or-le-sum_by (λ (branch : ℕ × ℕ). branch.1) branches 0 (0, 0) (omega (arith, split.0)) in
    let one : 1 ≤ (get_or branches 0 (0, 0)).1 = (split.2 0 (0, 0) (omega (arith, split.0))).0 in
    omega arith

-- what an outflow brings a cell is its share of the flow
passed-outflow : (out : Out) (amount j : ℕ) → IsSplit out → passed out (units_of_flow out * amount) j ≡ share out j * amount
passed-outflow out amount j split = ap (λ n. share out j * n) (mul-div_cancel_left amount (some_units out split))

-- one pass over the cells gives what they hold after the step
pub held_after-next : (net : Net) (letters : List Letter) (t : ℕ) (units outflows : List ℕ) → IsValid net →
    outflows ≡ table_of (length net.cells) (outflow net.cells letters units) →
    table_of (length net.cells) (held_after net.cells t units outflows) ≡ next_units net.cells letters t units
unfolding next_units next_of inflow outflow
held_after-next net letters t units outflows valid sent =
    let leaves : (i : ℕ) → i < length net.cells → slice_index outflows i ≡ units_of_flow (cell_of net.cells i).out * flow net.cells letters units i =
    λ i within. ap (λ (list : List ℕ). slice_index list i) sent ∙ slice_index-table_of (length net.cells) (outflow net.cells letters units) i within in
    let enters : (j : ℕ) → entered net.cells outflows (length net.cells) j ≡ inflow net.cells letters units j =
    λ j. sum_below-same (length net.cells) (λ i. passed (cell_of net.cells i).out (slice_index outflows i) j) (λ i. share (cell_of net.cells i).out j * flow net.cells letters units i)
    (λ i within. ap (λ n. passed (cell_of net.cells i).out n j) (leaves i within) ∙ passed-outflow (cell_of net.cells i).out (flow net.cells letters units i) j (valid.each_cell i within).split) in
    table_of-same (length net.cells) (held_after net.cells t units outflows) (next_of net.cells letters t units)
    (λ j within.
    ap (λ n. (slice_index units j - n) + entered net.cells outflows (length net.cells) j + demand_at (cell_of net.cells j) t) (leaves j within)
    ∙ ap (λ n. (slice_index units j - units_of_flow (cell_of net.cells j).out * flow net.cells letters units j) + n + demand_at (cell_of net.cells j) t) (enters j))

-- what leaves a cell is at most what it holds, and at most 1000 units
pub sent-held : (net : Net) (letters : List Letter) (units outflows : List ℕ) → outflows ≡ table_of (length net.cells) (outflow net.cells letters units) →
    (i : ℕ) → i < length net.cells → slice_index outflows i ≤ slice_index units i
sent-held net letters units outflows sent i within =
    let leaves : slice_index outflows i ≡ outflow net.cells letters units i =
    ap (λ (list : List ℕ). slice_index list i) sent ∙ slice_index-table_of (length net.cells) (outflow net.cells letters units) i within in
    rw leaves (outflow-le net.cells letters units i)

pub sent-small : (net : Net) (letters : List Letter) (units outflows : List ℕ) → IsValid net → outflows ≡ table_of (length net.cells) (outflow net.cells letters units) →
    (i : ℕ) → i < length net.cells → slice_index outflows i ≤ 1000
sent-small net letters units outflows valid sent i within =
    let leaves : slice_index outflows i ≡ outflow net.cells letters units i =
    ap (λ (list : List ℕ). slice_index list i) sent ∙ slice_index-table_of (length net.cells) (outflow net.cells letters units) i within in
    omega (arith, leaves, outflow-le_cap net.cells letters units i, (valid.each_cell i within).cap.1)

-- ---- where a replay stands

pub stands_at_start : (net : Net) → IsValid net → IsReplayOf net (at_start net.cells)
stands_at_start net valid = record {
  in_time = omega arith;
  held = AreHeld-initial_units net valid;
  outflows = length-replicate (length net.cells) 0;
}

pub stands_one_step_on : (net : Net) (letters : List Letter) (at : Standing) → IsValid net → IsReplayOf net at → at.step < net.steps →
    IsReplayOf net (one_step_on net.cells letters at)
stands_one_step_on net letters at valid stands before = record {
  in_time = omega arith;
  held = AreHeld-next_units net letters at.step at.units valid stands.held;
  outflows = length-table_of (length net.cells) (outflow net.cells letters at.units);
}
