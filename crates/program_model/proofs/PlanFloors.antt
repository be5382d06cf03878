-- What columns count under a plan: within their least and greatest units, the room of cells, and the floors.
use Rattle.std.proofs.Common.{◌≡◌, inl, inr, ℕ, zero, suc, ◌-◌, ◌*◌, ◌/◌, ◌%◌, ◌<◌, ◌≤◌, true, false, List, length, slice_index, ap, subst, ◌∙◌, arith}
use Rattle.std.specs.Prelude.{nat_lt, ℤ, pos}
use Rattle.std.proofs.Math.Nat.{div-add-mod, div-mul-le_self, div-one, mul-le-mul_left}
use Rattle.std.proofs.lemmas.Nat.{le-div}
use Rattle.std.proofs.lemmas.Int.{ints}
use Rattle.std.proofs.lemmas.Bool.{and_from, cases_Bool, ltb-false}
use Rattle.ct_base.specs.Access.{cell_of}
use Rattle.ct_base.specs.Validity.{IsRoad, IsValid}
use Rattle.ct_base.specs.declared.cell.Cell.{Cell}
use Rattle.ct_base.specs.declared.cell.Kind.{Kind}
use Rattle.ct_base.specs.declared.cell.Kind.TheVariants.{Road}
use Rattle.ct_base.specs.declared.net.Net.{Net}
use Rattle.ct_base.specs.declared.plan.Letter.{Letter}
use Rattle.traffic_model.specs.Delay.{letters_at}
use Rattle.traffic_model.specs.Occupancy.{most_held}
use Rattle.traffic_model.proofs.TrafficLaws.{AreHeld-occupancies, initial_units-at, occupancies-zero, road_of}
use Rattle.program_model.specs.Columns.{Column, Units, Room, has_room, is_led_into}
use Rattle.program_model.specs.FlowRows.{room, room_most}
use Rattle.program_model.specs.Rows.{Meets, Sum, column, number, plus, sum_at, times}
use Rattle.program_model.specs.SwitchRows.{floor_row}
use Rattle.program_model.specs.Values.{least_units, most_room, most_units, room_at, units_at, value_of}
use Rattle.program_model.proofs.SumLaws.{sum_at-column, sum_at-minus, sum_at-plus, sum_at-times}

-- what a column counts under the words of a plan, as a whole number
abbrev pub counted : Net → List (List Letter) → Column → ℤ
counted net words c = pos (value_of net words c)

-- a greater number has a greater quotient
pub div_rises : (m n k : ℕ) → m ≤ n → m / k ≤ n / k
div_rises m n zero le = omega arith
div_rises m n (suc k) le = le-div (m / suc k) n (suc k) (omega arith) (omega (arith, le, div-mul-le_self m (suc k)))

-- ---- units

pub held_at_first : (net : Net) (words : List (List Letter)) (i : ℕ) → i < length net.cells → units_at net words 0 i ≡ (cell_of net.cells i).initial
held_at_first net words i inside = ap (λ units. slice_index units i) (occupancies-zero net.cells (letters_at words)) ∙ initial_units-at net.cells i inside

-- no cell holds more than its greatest units
pub held-most : (net : Net) (words : List (List Letter)) (t i : ℕ) → IsValid net → i < length net.cells → units_at net words t i ≤ most_units (cell_of net.cells i) t
held-most net words zero i valid inside = omega (arith, held_at_first net words i inside)
held-most net words (suc t) i valid inside = (AreHeld-occupancies net (letters_at words) (suc t) valid).each i inside

-- nor less than its least
pub held-least : (net : Net) (words : List (List Letter)) (t i : ℕ) → i < length net.cells → least_units (cell_of net.cells i) t ≤ units_at net words t i
held-least net words zero i inside = omega (arith, held_at_first net words i inside)
held-least net words (suc t) i inside = omega arith

-- a road cell holds at most its storage
pub held-store : (net : Net) (words : List (List Letter)) (t i : ℕ) → IsValid net → i < length net.cells → (cell_of net.cells i).kind ≡ Road → units_at net words t i ≤ (cell_of net.cells i).store
held-store net words t i valid inside road =
    let held : units_at net words t i ≤ most_held (cell_of net.cells i).kind (cell_of net.cells i) t = (AreHeld-occupancies net (letters_at words) t valid).each i inside in
    subst (λ (kind : Kind). units_at net words t i ≤ most_held kind (cell_of net.cells i) t) road held

-- ---- floors

-- so many times a quotient, and the rest
pub floor_is_met : {C : Type 0} (value : C → ℤ) (whole rest : C) (divisor m : ℕ) (of : Sum C) → sum_at value of ≡ pos m →
    value whole ≡ pos (m / divisor) → value rest ≡ pos (m % divisor) → Meets value (floor_row whole rest divisor of)
floor_is_met value whole rest divisor m of is quotient left =
    rw (
      sum_at-minus value (plus (times (pos divisor) (column whole)) (column rest)) of,
      sum_at-plus value (times (pos divisor) (column whole)) (column rest),
      sum_at-times value (pos divisor) (column whole),
      sum_at-column value whole,
      sum_at-column value rest,
      is,
      quotient,
      left,
    )
    (omega (arith, ints, div-add-mod m divisor))

-- ---- room

-- the cell is a road cell with a wave of less than free flow, or its wave is that of free flow
pub wave_is_free : (net : Net) (b : ℕ) → IsValid net → b < length net.cells → (cell_of net.cells b).kind ≡ Road → nat_lt 1 (cell_of net.cells b).wave_q ≡ false →
    ((cell_of net.cells b).wave_p ≡ 1) × ((cell_of net.cells b).wave_q ≡ 1)
wave_is_free net b valid inside road free =
    let is : IsRoad (cell_of net.cells b) = road_of net b valid inside road in
    let small : (cell_of net.cells b).wave_q ≤ 1 = ltb-false 1 (cell_of net.cells b).wave_q free in
    (omega (arith, is.wave_p.0, is.wave_p.1, small), omega (arith, is.wave_p.0, is.wave_p.1, small))

-- the room of a road cell that some move leads into
pub room_is : (net : Net) (words : List (List Letter)) (t b : ℕ) → IsValid net → b < length net.cells → (cell_of net.cells b).kind ≡ Road → is_led_into net.cells b ≡ true →
    sum_at (counted net words) (room net.cells t b) ≡ pos (room_at net words t b)
room_is net words t b valid inside road led =
    elim (cases_Bool (nat_lt 1 (cell_of net.cells b).wave_q)) [
      | inl divided ↦ rw (and_from (nat_lt 1 (cell_of net.cells b).wave_q) (is_led_into net.cells b) divided led) (sum_at-column (counted net words) (Room t b))
      | inr free ↦
          let waves : ((cell_of net.cells b).wave_p ≡ 1) × ((cell_of net.cells b).wave_q ≡ 1) = wave_is_free net b valid inside road free in
          let none : has_room net.cells b ≡ false = rw free in
          let held : units_at net words t b ≤ (cell_of net.cells b).store = held-store net words t b valid inside road in
          let whole : room_at net words t b ≡ (cell_of net.cells b).store - units_at net words t b =
          rw (waves.0, waves.1) (div-one (1 * ((cell_of net.cells b).store - units_at net words t b)) ∙ (omega arith)) in
          rw (none, sum_at-minus (counted net words) (number (cell_of net.cells b).store) (column (Units t b)), sum_at-column (counted net words) (Units t b), whole)
          (omega (arith, ints, held))
    ]

-- it is at most that of the empty cell
pub room-most_room : (net : Net) (words : List (List Letter)) (t b : ℕ) → room_at net words t b ≤ most_room (cell_of net.cells b)
room-most_room net words t b =
    let cell : Cell = cell_of net.cells b in
    div_rises (cell.wave_p * (cell.store - units_at net words t b)) (cell.wave_p * cell.store) cell.wave_q
    (mul-le-mul_left cell.wave_p (omega arith))

-- and the most of it
pub room-most : (net : Net) (words : List (List Letter)) (t b : ℕ) → IsValid net → b < length net.cells → (cell_of net.cells b).kind ≡ Road → is_led_into net.cells b ≡ true →
    room_at net words t b ≤ room_most net.cells t b
room-most net words t b valid inside road led =
    elim (cases_Bool (nat_lt 1 (cell_of net.cells b).wave_q)) [
      | inl divided ↦
          rw (and_from (nat_lt 1 (cell_of net.cells b).wave_q) (is_led_into net.cells b) divided led) (room-most_room net words t b)
      | inr free ↦
          let waves : ((cell_of net.cells b).wave_p ≡ 1) × ((cell_of net.cells b).wave_q ≡ 1) = wave_is_free net b valid inside road free in
          let none : has_room net.cells b ≡ false = rw free in
          let least : least_units (cell_of net.cells b) t ≤ units_at net words t b = held-least net words t b inside in
          let whole : room_at net words t b ≡ (cell_of net.cells b).store - units_at net words t b =
          rw (waves.0, waves.1) (div-one (1 * ((cell_of net.cells b).store - units_at net words t b)) ∙ (omega arith)) in
          rw (none, whole) (omega (arith, least))
    ]
