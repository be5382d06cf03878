-- The flow rows are met under an admissible plan: floors, moves, and what cells hold in the next step.
use Rattle.std.proofs.Common.{◌≡◌, inl, inr, ℕ, suc, ◌+◌, ◌-◌, ◌*◌, ◌/◌, ◌%◌, ◌<◌, ◌≤◌, true, List, [], ◌∷◌, length, get_or, slice_index, refl, ap, subst, ◌∙◌, sym, arith}
use Rattle.std.specs.Prelude.{nat_lt, ℤ, pos, ◌+ℤ◌, ◌-ℤ◌, ◌*ℤ◌}
use Rattle.std.proofs.lemmas.Int.{ints}
use Rattle.std.proofs.lemmas.Bool.{and_parts, cases_Bool, ltb-true}
use Rattle.listed.specs.Below.{sum_below}
use Rattle.ct_base.specs.Access.{cell_of}
use Rattle.ct_base.specs.Validity.{IsOfKind, IsValid}
use Rattle.ct_base.specs.declared.cell.Cell.{Cell}
use Rattle.ct_base.specs.declared.cell.Kind.{Kind}
use Rattle.ct_base.specs.declared.cell.Kind.TheVariants.{Queue, Road}
use Rattle.ct_base.specs.declared.cell.Out.{Out}
use Rattle.ct_base.specs.declared.cell.Out.TheVariants.{Exit, To, Turns}
use Rattle.ct_base.specs.declared.net.Net.{Net}
use Rattle.ct_base.specs.declared.plan.Letter.{Letter}
use Rattle.ct_base.specs.declared.plan.Plan.{Plan}
use Rattle.traffic_model.specs.Delay.{letters_at}
use Rattle.traffic_model.specs.Flow.{flow, inflow, outflow, share, units_of_flow}
use Rattle.traffic_model.specs.Occupancy.{demand_at, next_of, occupancies}
use Rattle.traffic_model.specs.Runs.{IsAdmissiblePlan}
use Rattle.traffic_model.proofs.TrafficLaws.{next_units-at, occupancies-suc, outflow-le}
use Rattle.program_model.specs.Columns.{BranchRest, BranchRoom, Column, Flow, Parcels, ParcelsRest, Room, RoomRest, Units, has_room, is_led_into}
use Rattle.program_model.specs.FlowRows.{branch_rows, branches_rows, conservation_row, conservation_rows, entering, flow_rows, flow_rows_at, room, room_rows, split_rows}
use Rattle.program_model.specs.Rows.{AllMeet, Meets, Sum, column, equals, minus, number, plus, sum_at, times}
use Rattle.program_model.specs.Values.{branch_of, room_at, units_at, value_of}
use Rattle.program_model.proofs.PlanFloors.{counted, floor_is_met, held-store, room_is}
use Rattle.program_model.proofs.PlanMoves.{IsLedInto, move_rows_are_met, turn_is_led_into}
use Rattle.program_model.proofs.SumLaws.{AllMeet-append, AllMeet-join_below, sum_at-column, sum_at-minus, sum_at-plus, sum_at-times, terms_at-table}

-- a queue has the wave of free flow, so a cell whose room is a column is a road cell
has_room-road : (net : Net) (i : ℕ) → IsValid net → i < length net.cells → nat_lt 1 (cell_of net.cells i).wave_q ≡ true → (cell_of net.cells i).kind ≡ Road
has_room-road net i valid inside divided = by_kind (cell_of net.cells i).kind refl
  where
    by_kind : (kind : Kind) → (cell_of net.cells i).kind ≡ kind → (cell_of net.cells i).kind ≡ Road
    by_kind Road is = is
    by_kind Queue is =
        let queue : IsOfKind Queue net.steps (cell_of net.cells i) = subst (λ (kind : Kind). IsOfKind kind net.steps (cell_of net.cells i)) is (valid.each_cell i inside).kind in
        absurd (omega (arith, queue.wave_q, ltb-true 1 (cell_of net.cells i).wave_q divided))

-- the room of a cell
room_rows_are_met : (net : Net) (words : List (List Letter)) (t i : ℕ) → IsValid net → i < length net.cells → AllMeet (counted net words) (room_rows net.cells t i)
room_rows_are_met net words t i valid inside =
    let cell : Cell = cell_of net.cells i in
    elim (cases_Bool (has_room net.cells i)) [
      | inl has ↦
          let road : cell.kind ≡ Road = has_room-road net i valid inside (and_parts (nat_lt 1 cell.wave_q) (is_led_into net.cells i) has).0 in
          let held : units_at net words t i ≤ cell.store = held-store net words t i valid inside road in
          let free : sum_at (counted net words) (minus (number cell.store) (column (Units t i))) ≡ pos (cell.store - units_at net words t i) =
          rw (sum_at-minus (counted net words) (number cell.store) (column (Units t i)), sum_at-column (counted net words) (Units t i)) (omega (arith, ints, held)) in
          let part : sum_at (counted net words) (times (pos cell.wave_p) (minus (number cell.store) (column (Units t i)))) ≡ pos (cell.wave_p * (cell.store - units_at net words t i)) =
          rw (sum_at-times (counted net words) (pos cell.wave_p) (minus (number cell.store) (column (Units t i))), free) refl in
          rw has (
            floor_is_met (counted net words) (Room t i) (RoomRest t i) cell.wave_q (cell.wave_p * (cell.store - units_at net words t i))
                (times (pos cell.wave_p) (minus (number cell.store) (column (Units t i)))) part refl refl,
            tt,
          )
      | inr none ↦ rw none tt
    ]

-- the floor of a branch
branch_rows_are_met : (net : Net) (words : List (List Letter)) (t i k : ℕ) (branch : ℕ × ℕ) → IsValid net → IsLedInto net branch.0 →
    branch_of (cell_of net.cells i).out k ≡ branch → AllMeet (counted net words) (branch_rows net.cells t i k branch)
branch_rows_are_met net words t i k branch valid led is =
    elim (cases_Bool (nat_lt 1 branch.1)) [
      | inl many ↦
          rw many (
            floor_is_met (counted net words) (BranchRoom t i k) (BranchRest t i k) branch.1 (room_at net words t branch.0) (room net.cells t branch.0)
                (room_is net words t branch.0 valid led.within led.road led.led) (ap (λ (b : ℕ × ℕ). pos (room_at net words t b.0 / b.1)) is) (ap (λ (b : ℕ × ℕ). pos (room_at net words t b.0 % b.1)) is),
            tt,
          )
      | inr one ↦ rw one tt
    ]

branches_rows_are_met : (net : Net) (words : List (List Letter)) (t i k : ℕ) (branches : List (ℕ × ℕ)) → IsValid net →
    ((j : ℕ) → j < length branches → IsLedInto net (get_or branches j (0, 1)).0) →
    ((j : ℕ) → j < length branches → branch_of (cell_of net.cells i).out (k + j) ≡ get_or branches j (0, 1)) → AllMeet (counted net words) (branches_rows net.cells t i k branches)
branches_rows_are_met net words t i k [] valid led are = tt
branches_rows_are_met net words t i k (branch ∷ branches) valid led are =
    let first : k + 0 ≡ k = omega arith in
    AllMeet-append (counted net words) (branch_rows net.cells t i k branch) (branches_rows net.cells t i (k + 1) branches)
    (branch_rows_are_met net words t i k branch valid (led 0 (omega arith)) (ap (branch_of (cell_of net.cells i).out) (sym first) ∙ are 0 (omega arith)))
    (branches_rows_are_met net words t i (k + 1) branches valid (λ j inside. led (suc j) (omega (arith, inside)))
    (λ j inside. let next : k + 1 + j ≡ k + suc j = omega arith in ap (branch_of (cell_of net.cells i).out) next ∙ are (suc j) (omega (arith, inside))))

-- the floors of a diverge
split_rows_are_met : (net : Net) (words : List (List Letter)) (t i : ℕ) (out : Out) → IsValid net → i < length net.cells → (cell_of net.cells i).out ≡ out →
    AllMeet (counted net words) (split_rows net.cells t i out)
split_rows_are_met net words t i Exit valid inside is = tt
split_rows_are_met net words t i (To b) valid inside is = tt
split_rows_are_met net words t i (Turns branches) valid inside is =
    let units : units_of_flow (cell_of net.cells i).out ≡ units_of_flow (Turns branches) = ap units_of_flow is in (
      floor_is_met (counted net words) (Parcels t i) (ParcelsRest t i) (units_of_flow (Turns branches)) (units_at net words t i) (column (Units t i))
          (sum_at-column (counted net words) (Units t i)) (ap (λ n. pos (units_at net words t i / n)) units) (ap (λ n. pos (units_at net words t i % n)) units),
      branches_rows_are_met net words t i 0 branches valid
          (λ j there. turn_is_led_into net i branches j valid inside is there)
          (λ j there. let at : 0 + j ≡ j = omega arith in ap (λ (out : Out). branch_of out (0 + j)) is ∙ ap (branch_of (Turns branches)) at),
    )

-- ---- the next step

-- what enters a cell
entering_is : (net : Net) (words : List (List Letter)) (t i : ℕ) → sum_at (counted net words) (entering net.cells t i) ≡ pos (inflow net.cells (letters_at words t) (occupancies net.cells (letters_at words) t) i)
unfolding inflow
entering_is net words t i =
    let all : _ ≡ pos (sum_below (length net.cells) (λ j. share (cell_of net.cells j).out i * value_of net words (Flow t j))) =
    terms_at-table (counted net words) (length net.cells) (Flow t) (λ j. share (cell_of net.cells j).out i) (λ j. value_of net words (Flow t j)) (λ j. refl) in
    omega (arith, ints, all)

-- what a cell holds next, and what left it
with_outflow : (next held out entered arrived : ℕ) → next ≡ (held - out) + entered + arrived → out ≤ held → next + out ≡ held + entered + arrived
with_outflow next held out entered arrived is le = omega (arith, is, le)

-- what cell i holds in the next step
next_is : (net : Net) (words : List (List Letter)) (t i : ℕ) → i < length net.cells →
    units_at net words (t + 1) i + outflow net.cells (letters_at words t) (occupancies net.cells (letters_at words) t) i
    ≡ units_at net words t i + inflow net.cells (letters_at words t) (occupancies net.cells (letters_at words) t) i + demand_at (cell_of net.cells i) t
unfolding next_of
next_is net words t i inside =
    let units : List ℕ = occupancies net.cells (letters_at words) t in
    with_outflow (units_at net words (t + 1) i) (units_at net words t i) (outflow net.cells (letters_at words t) units i) (inflow net.cells (letters_at words t) units i) (demand_at (cell_of net.cells i) t)
    (ap (λ (us : List ℕ). slice_index us i) (occupancies-suc net.cells (letters_at words) t) ∙ next_units-at net.cells (letters_at words t) t units i inside)
    (outflow-le net.cells (letters_at words t) units i)

-- the sum of a row of conservation
conserved : (value : Column → ℤ) (next held flow : Column) (entering : Sum Column) (times_of n m y entered arrived : ℕ) →
    value next ≡ pos n → value held ≡ pos m → value flow ≡ pos y → sum_at value entering ≡ pos entered → n + times_of * y ≡ m + entered + arrived →
    Meets value (equals (plus (minus (column next) (column held)) (minus (times (pos times_of) (column flow)) entering)) (pos arrived))
conserved value next held flow entering times_of n m y entered arrived is_next is_held is_flow is_entering conserves =
    sum_at-plus value (minus (column next) (column held)) (minus (times (pos times_of) (column flow)) entering)
    ∙ ap (λ (z : ℤ). z +ℤ sum_at value (minus (times (pos times_of) (column flow)) entering))
    (sum_at-minus value (column next) (column held) ∙ ap (λ (z : ℤ). z -ℤ sum_at value (column held)) (sum_at-column value next ∙ is_next) ∙ ap (λ (z : ℤ). pos n -ℤ z) (sum_at-column value held ∙ is_held))
    ∙ ap (λ (z : ℤ). pos n -ℤ pos m +ℤ z)
    (sum_at-minus value (times (pos times_of) (column flow)) entering
    ∙ ap (λ (z : ℤ). z -ℤ sum_at value entering) (sum_at-times value (pos times_of) (column flow) ∙ ap (λ (z : ℤ). pos times_of *ℤ z) (sum_at-column value flow ∙ is_flow))
    ∙ ap (λ (z : ℤ). pos times_of *ℤ pos y -ℤ z) is_entering)
    ∙ (omega (arith, ints, conserves))

conservation_is_met : (net : Net) (words : List (List Letter)) (t i : ℕ) → i < length net.cells → Meets (counted net words) (conservation_row net.cells t i)
unfolding outflow
conservation_is_met net words t i inside =
    let units : List ℕ = occupancies net.cells (letters_at words) t in
    conserved (counted net words) (Units (t + 1) i) (Units t i) (Flow t i) (entering net.cells t i) (units_of_flow (cell_of net.cells i).out)
    (units_at net words (t + 1) i) (units_at net words t i) (flow net.cells (letters_at words t) units i) (inflow net.cells (letters_at words t) units i) (demand_at (cell_of net.cells i) t)
    refl refl refl (entering_is net words t i) (next_is net words t i inside)

conservation_rows_are_met : (net : Net) (words : List (List Letter)) (t i : ℕ) → i < length net.cells → AllMeet (counted net words) (conservation_rows net.cells net.steps t i)
conservation_rows_are_met net words t i inside =
    elim (cases_Bool (nat_lt (t + 1) net.steps)) [
      | inl goes_on ↦ rw goes_on (conservation_is_met net words t i inside, tt)
      | inr last ↦ rw last tt
    ]

-- ---- all of them

pub plans_meet_flow_rows : (net : Net) (plan : Plan) → IsValid net → IsAdmissiblePlan net plan → AllMeet (counted net plan.words) (flow_rows net)
unfolding flow_rows flow_rows_at
plans_meet_flow_rows net plan valid admissible =
    let value : Column → ℤ = counted net plan.words in
    AllMeet-join_below value net.steps _ (λ t before. AllMeet-join_below value (length net.cells) (flow_rows_at net t) (λ i inside.
    AllMeet-append value _ _ (AllMeet-append value _ _ (AllMeet-append value (room_rows net.cells t i) _
    (room_rows_are_met net plan.words t i valid inside)
    (split_rows_are_met net plan.words t i (cell_of net.cells i).out valid inside refl))
    (move_rows_are_met net plan t i valid admissible before inside))
    (conservation_rows_are_met net plan.words t i inside)))
