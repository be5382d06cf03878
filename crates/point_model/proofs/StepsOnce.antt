-- From step to step: the bits of all steps decide what cells hold, and so all columns.
use Rattle.std.proofs.Common.{◌≡◌, ℕ, zero, suc, ◌+◌, ◌-◌, ◌<◌, List, [], ◌∷◌, length, get_or, filter, map, refl, subst, sym, arith}
use Rattle.std.specs.Prelude.{nat_lt, ℤ, pos, ◌+ℤ◌, ◌≤ℤ◌, Option, Some, None, IfSome}
use Rattle.std.proofs.lemmas.Bool.{lt-ltb}
use Rattle.std.proofs.lemmas.Int.{ints}
use Rattle.std.proofs.lemmas.List.{get_or_default}
use Rattle.std.proofs.lemmas.List.Sums.{sum_by-cons}
use Rattle.ct_base.specs.Access.{cell_of, signal_of}
use Rattle.ct_base.specs.Validity.{IsGate, IsSplit}
use Rattle.ct_base.specs.declared.cell.Gate.{Gate}
use Rattle.ct_base.specs.declared.cell.Out.{Out}
use Rattle.ct_base.specs.declared.cell.Out.TheVariants.{Exit, To, Turns}
use Rattle.ct_base.specs.declared.net.Net.{Net}
use Rattle.ct_base.specs.declared.plan.Letter.{Letter}
use Rattle.ct_base.specs.declared.signal.Signal.{Signal}
use Rattle.traffic_model.specs.Flow.{cap_of, is_green_among, share, units_of_flow}
use Rattle.traffic_model.specs.Occupancy.{demand_at}
use Rattle.program_model.specs.Columns.{Bit, BranchRest, BranchRoom, Column, Flow, Parcels, ParcelsRest, Room, RoomRest, Switch, Units, letters_of, term_count}
use Rattle.program_model.specs.Existence.{HasFloor, IsColumn, IsDiverge, IsLetterOf, IsPlace}
use Rattle.program_model.specs.FlowRows.{conservation_row, entering, further_terms, gated_cap, move_terms, split_rows}
use Rattle.program_model.specs.Rows.{AllMeet, Sum, column, minus, plus, sum_at, times, total}
use Rattle.program_model.specs.SwitchRows.{Term}
use Rattle.program_model.proofs.ColumnLaws.{Each, Each-table_of, letters_are}
use Rattle.program_model.proofs.FlowColumns.{length-further_terms}
use Rattle.program_model.proofs.PlanMoves.{IsLedInto, to_is_led_into}
use Rattle.program_model.proofs.RowColumns.{each-filter}
use Rattle.program_model.proofs.SumLaws.{sum_at-column, sum_at-minus, sum_at-plus}
use Rattle.point_model.proofs.BranchesOnce.{branches_are, branches_once, same-branch_terms}
use Rattle.point_model.proofs.FloorsOnce.{AreParts, floor_once}
use Rattle.point_model.proofs.MovesOnce.{AreMoves, move_once}
use Rattle.point_model.proofs.SameSums.{Same, same-column, same-minus, same-terms, same-times, same-total}
use Rattle.point_model.proofs.Solutions.{AreSolutions, IsSolution, SameUnits, meets_at, room_once, row_where, same-room}

-- ---- the floors of a diverge

-- its parcels, and what is left beside them
parcels_once : (net : Net) (value other : Column → ℤ) (t i : ℕ) (branches : List (ℕ × ℕ)) → AreSolutions net value other → IsPlace net t i → SameUnits net value other t →
    (cell_of net.cells i).out ≡ Turns branches → (value (Parcels t i) ≡ other (Parcels t i)) × (value (ParcelsRest t i) ≡ other (ParcelsRest t i))
parcels_once net value other t i branches are place same is =
    let units : ℕ = units_of_flow (Turns branches) in
    let diverge : IsDiverge (cell_of net.cells i).out = rw is tt in
    let split : IsSplit (Turns branches) = subst IsSplit is (are.valid.each_cell i place.inside).split in
    let parts : (x : Column → ℤ) → IsSolution net x → AreParts x (Parcels t i) (ParcelsRest t i) units =
    λ x solution. record {
      not_negative = solution.low (Parcels t i) (place, diverge);
      low = solution.low (ParcelsRest t i) (place, diverge);
      high = subst (λ (out : Out). x (ParcelsRest t i) ≤ℤ pos (units_of_flow out - 1)) is (solution.high (ParcelsRest t i) (place, diverge));
    } in
    let rows : (x : Column → ℤ) → IsSolution net x → AllMeet x (split_rows net.cells t i (Turns branches)) =
    λ x solution. subst (λ (out : Out). AllMeet x (split_rows net.cells t i out)) is (meets_at net x t i solution place).split in
    floor_once value other (Parcels t i) (ParcelsRest t i) units (column (Units t i)) (some_parcel branches split)
    (same-column value other (Units t i) (same i place.inside)) (parts value are.one) (parts other are.two) (rows value are.one).0 (rows other are.two).0
  where
    some_parcel : (branches : List (ℕ × ℕ)) → IsSplit (Turns branches) → 0 < units_of_flow (Turns branches)
    some_parcel [] split = absurd (omega (arith, split.0.0))
    some_parcel (branch ∷ branches) split = omega (arith, (split.2 0 (0, 1) (omega arith)).0, sum_by-cons (λ (b : ℕ × ℕ). b.1) branch branches)

-- the floors of its branches
floors_once : (net : Net) (value other : Column → ℤ) (t i : ℕ) (branches : List (ℕ × ℕ)) → AreSolutions net value other → IsPlace net t i → SameUnits net value other t →
    (cell_of net.cells i).out ≡ Turns branches → (k : ℕ) → k < length branches → 1 < (get_or branches k (0, 1)).1 →
    (value (BranchRoom t i k) ≡ other (BranchRoom t i k)) × (value (BranchRest t i k) ≡ other (BranchRest t i k))
floors_once net value other t i branches are place same is k inside many =
    let rows : (x : Column → ℤ) → IsSolution net x → AllMeet x (split_rows net.cells t i (Turns branches)) =
    λ x solution. subst (λ (out : Out). AllMeet x (split_rows net.cells t i out)) is (meets_at net x t i solution place).split in
    let at : 0 + k ≡ k = omega arith in
    subst (λ (n : ℕ). (value (BranchRoom t i n) ≡ other (BranchRoom t i n)) × (value (BranchRest t i n) ≡ other (BranchRest t i n))) at
    (branches_once net value other t i 0 branches are place same (branches_are net t i branches value other are place is) (rows value are.one).1 (rows other are.two).1 k inside many)

-- ---- the terms of a move

-- bits of letters of a signal
same-bits : (net : Net) (value other : Column → ℤ) (t s : ℕ) (letters : List Letter) → AreSolutions net value other → t < net.steps → s < length net.signals →
    Each (IsLetterOf (signal_of net.signals s)) letters → Each (λ (letter : Letter). value (Bit t s letter) ≡ other (Bit t s letter)) letters
same-bits net value other t s [] are before inside of = tt
same-bits net value other t s (letter ∷ letters) are before inside of =
    (are.bits t s letter (before, inside, of.0), same-bits net value other t s letters are before inside of.1)

-- the cap, where the cell is open
same-cap : (net : Net) (value other : Column → ℤ) (t cap : ℕ) (gate : Option Gate) → AreSolutions net value other → t < net.steps → IfSome gate (IsGate net.signals) →
    Same value other (gated_cap net.signals t cap gate)
same-cap net value other t cap None are before gated = refl
same-cap net value other t cap (Some gate) are before gated =
    let signal : Signal = signal_of net.signals gate.signal in
    let greens : List Letter = filter (is_green_among gate.greens) (letters_of signal) in
    same-times value other (pos cap) (total (map (Bit t gate.signal) greens))
    (same-total value other (Bit t gate.signal) greens
    (same-bits net value other t gate.signal greens are before gated.signal (each-filter (IsLetterOf signal) (is_green_among gate.greens) (letters_of signal) (letters_are signal))))

-- the sending and receiving terms
same-further : (net : Net) (value other : Column → ℤ) (t i : ℕ) (out : Out) → AreSolutions net value other → IsPlace net t i → SameUnits net value other t →
    (cell_of net.cells i).out ≡ out → Each (λ (term : Term Column). Same value other term.of) (further_terms net.cells t i out)
same-further net value other t i Exit are place same is = (same-column value other (Units t i) (same i place.inside), tt)
same-further net value other t i (To b) are place same is =
    let led : IsLedInto net b = to_is_led_into net i b are.valid place.inside is in
    (same-column value other (Units t i) (same i place.inside), (same-room net value other t b are (record { before = place.before; inside = led.within }) same, tt))
same-further net value other t i (Turns branches) are place same is = (
  same-column value other (Parcels t i) (parcels_once net value other t i branches are place same is).0,
  same-branch_terms net value other t i 0 branches are place same (branches_are net t i branches value other are place is)
      (λ k inside many. let at : k ≡ 0 + k = omega arith in
      subst (λ (n : ℕ). value (BranchRoom t i n) ≡ other (BranchRoom t i n)) at (floors_once net value other t i branches are place same is k inside many).0),
)

-- ---- moves

-- the flow of a move, and its switches
pub flow_once : (net : Net) (value other : Column → ℤ) (t i : ℕ) → AreSolutions net value other → IsPlace net t i → SameUnits net value other t →
    (value (Flow t i) ≡ other (Flow t i)) × ((m : ℕ) → m < term_count (cell_of net.cells i).out → value (Switch t i m) ≡ other (Switch t i m))
flow_once net value other t i are place same =
    let out : Out = (cell_of net.cells i).out in
    let terms : List (Term Column) = move_terms net t i in
    let long : length terms ≡ term_count out = omega (arith, length-further_terms net t i out) in
    let moves : (x : Column → ℤ) → IsSolution net x → AreMoves x (Flow t i) (Switch t i) (length terms) =
    λ x solution. record {
      not_negative = solution.low (Flow t i) place;
      low = λ k inside. solution.low (Switch t i k) (place, omega (arith, inside, long));
      high = λ k inside. solution.high (Switch t i k) (place, omega (arith, inside, long));
    } in
    let same_terms : Each (λ (term : Term Column). Same value other term.of) terms = (
      same-cap net value other t (cap_of net.cells (cell_of net.cells i) out) (cell_of net.cells i).gate are place.before (are.valid.each_cell i place.inside).gate,
      same-further net value other t i out are place same refl,
    ) in
    let once = move_once value other (Flow t i) terms (Switch t i) same_terms (moves value are.one) (moves other are.two) (meets_at net value t i are.one place).moves (meets_at net other t i are.two place).moves in
    (once.0, λ m inside. once.1 m (omega (arith, inside, long)))

-- ---- the next step

-- what enters a cell
same-entering : (net : Net) (value other : Column → ℤ) (t i : ℕ) → AreSolutions net value other → t < net.steps → SameUnits net value other t → Same value other (entering net.cells t i)
same-entering net value other t i are before same =
    let flows : List (Column × ℤ) = (entering net.cells t i).terms in
    let each : Each (λ (term : Column × ℤ). value term.0 ≡ other term.0) flows =
    Each-table_of (λ (term : Column × ℤ). value term.0 ≡ other term.0) (length net.cells) (λ j. (Flow t j, pos (share (cell_of net.cells j).out i)))
    (λ j inside. (flow_once net value other t j are (record { before = before; inside = inside }) same).0) in
    omega (arith, ints, same-terms value other flows each)

-- what a cell holds next
next_once : (net : Net) (value other : Column → ℤ) (t : ℕ) → AreSolutions net value other → t + 1 < net.steps → SameUnits net value other t → SameUnits net value other (t + 1)
next_once net value other t are before same i inside =
    let place : IsPlace net t i = record { before = omega (arith, before); inside = inside } in
    let flow : value (Flow t i) ≡ other (Flow t i) = (flow_once net value other t i are place same).0 in
    let leaving : Sum Column = times (pos (units_of_flow (cell_of net.cells i).out)) (column (Flow t i)) in
    let moved : Sum Column = minus leaving (entering net.cells t i) in
    let held : Sum Column = minus (column (Units (t + 1) i)) (column (Units t i)) in
    let same_moved : Same value other moved =
    same-minus value other leaving (entering net.cells t i) (same-times value other (pos (units_of_flow (cell_of net.cells i).out)) (column (Flow t i)) (same-column value other (Flow t i) flow))
    (same-entering net value other t i are (omega (arith, before)) same) in
    let row : (x : Column → ℤ) → IsSolution net x → sum_at x (plus held moved) ≡ pos (demand_at (cell_of net.cells i) t) =
    λ x solution. row_where x (nat_lt (t + 1) net.steps) (conservation_row net.cells t i) (lt-ltb (t + 1) net.steps before) (meets_at net x t i solution place).next in
    let held_is : (x : Column → ℤ) → sum_at x held +ℤ sum_at x moved ≡ sum_at x (plus held moved) = λ x. sym (sum_at-plus x held moved) in
    omega (
      arith,
      ints,
      same i inside,
      same_moved,
      row value are.one,
      row other are.two,
      held_is value,
      held_is other,
      sum_at-minus value (column (Units (t + 1) i)) (column (Units t i)),
      sum_at-minus other (column (Units (t + 1) i)) (column (Units t i)),
      sum_at-column value (Units (t + 1) i),
      sum_at-column other (Units (t + 1) i),
      sum_at-column value (Units t i),
      sum_at-column other (Units t i),
    )

-- at each step: the bounds fix what cells hold at step 0, and the rows what they hold next
pub units_once : (net : Net) (value other : Column → ℤ) (t : ℕ) → AreSolutions net value other → t < net.steps → SameUnits net value other t
units_once net value other zero are before = λ i inside.
    let place : IsPlace net 0 i = record { before = before; inside = inside } in
    omega (arith, ints, are.one.low (Units 0 i) place, are.one.high (Units 0 i) place, are.two.low (Units 0 i) place, are.two.high (Units 0 i) place)
units_once net value other (suc t) are before =
    let next : t + 1 ≡ suc t = omega arith in
    subst (SameUnits net value other) next (next_once net value other t are (omega (arith, before)) (units_once net value other t are (omega (arith, before))))

-- ---- all columns

-- the columns of a diverge, by what the move out of its cell is
parcels_of : (net : Net) (value other : Column → ℤ) (t i : ℕ) (out : Out) → AreSolutions net value other → IsPlace net t i → (cell_of net.cells i).out ≡ out → IsDiverge out →
    (value (Parcels t i) ≡ other (Parcels t i)) × (value (ParcelsRest t i) ≡ other (ParcelsRest t i))
parcels_of net value other t i Exit are place is diverge = absurd diverge
parcels_of net value other t i (To b) are place is diverge = absurd diverge
parcels_of net value other t i (Turns branches) are place is diverge = parcels_once net value other t i branches are place (units_once net value other t are place.before) is

floors_of : (net : Net) (value other : Column → ℤ) (t i k : ℕ) (out : Out) → AreSolutions net value other → IsPlace net t i → (cell_of net.cells i).out ≡ out → HasFloor out k →
    (value (BranchRoom t i k) ≡ other (BranchRoom t i k)) × (value (BranchRest t i k) ≡ other (BranchRest t i k))
floors_of net value other t i k Exit are place is floor = absurd (omega (arith, floor.inside))
floors_of net value other t i k (To b) are place is floor = absurd (omega (arith, floor.inside))
floors_of net value other t i k (Turns branches) are place is floor =
    floors_once net value other t i branches are place (units_once net value other t are place.before) is k floor.inside
    (rw (get_or_default branches k (0, 1) (0, 0) floor.inside) floor.many)

-- each column has the same
pub columns_once : (net : Net) (value other : Column → ℤ) (c : Column) → AreSolutions net value other → IsColumn net c → value c ≡ other c
columns_once net value other (Bit t s letter) are is = are.bits t s letter is
columns_once net value other (Units t i) are place = units_once net value other t are place.before i place.inside
columns_once net value other (Room t i) are is = (room_once net value other t i are is.0 (units_once net value other t are is.0.before) is.1).0
columns_once net value other (RoomRest t i) are is = (room_once net value other t i are is.0 (units_once net value other t are is.0.before) is.1).1
columns_once net value other (Parcels t i) are is = (parcels_of net value other t i (cell_of net.cells i).out are is.0 refl is.1).0
columns_once net value other (ParcelsRest t i) are is = (parcels_of net value other t i (cell_of net.cells i).out are is.0 refl is.1).1
columns_once net value other (BranchRoom t i k) are is = (floors_of net value other t i k (cell_of net.cells i).out are is.0 refl is.1).0
columns_once net value other (BranchRest t i k) are is = (floors_of net value other t i k (cell_of net.cells i).out are is.0 refl is.1).1
columns_once net value other (Flow t i) are place = (flow_once net value other t i are place (units_once net value other t are place.before)).0
columns_once net value other (Switch t i m) are is = (flow_once net value other t i are is.0 (units_once net value other t are is.0.before)).1 m is.1
