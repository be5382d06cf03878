-- Values of the columns of a network within their bounds that meet the flow rows, the rows of one cell at one step, and two such
-- values with the same bits.
use Rattle.std.proofs.Common.{◌≡◌, inl, inr, ℕ, ◌<◌, Bool, true, false, List, [], ◌∷◌, ◌++◌, length, refl, arith}
use Rattle.std.specs.Prelude.{if◌then◌else◌, nat_lt, ℤ, pos, ◌≤ℤ◌}
use Rattle.std.proofs.lemmas.Bool.{and_parts, cases_Bool, ltb-true}
use Rattle.listed.specs.Below.{join_below}
use Rattle.ct_base.specs.Access.{cell_of}
use Rattle.ct_base.specs.Validity.{IsValid}
use Rattle.ct_base.specs.declared.cell.Cell.{Cell}
use Rattle.ct_base.specs.declared.net.Net.{Net}
use Rattle.ct_base.specs.declared.plan.Letter.{Letter}
use Rattle.program_model.specs.Columns.{Bit, Column, Flow, Room, RoomRest, Switch, Units, has_room, is_led_into}
use Rattle.program_model.specs.Existence.{IsColumn, IsPlace}
use Rattle.program_model.specs.FlowRows.{conservation_rows, flow_rows, flow_rows_at, move_terms, room, room_rows, split_rows}
use Rattle.program_model.specs.Rows.{AllMeet, Meets, SumRow, column, minus, number, times}
use Rattle.program_model.specs.SwitchRows.{floor_row, least_rows}
use Rattle.program_model.specs.Values.{least_of, most_of}
use Rattle.program_model.proofs.SumLaws.{AllMeet-parts}
use Rattle.rule_breaks.proofs.MetRows.{meets_part}
use Rattle.point_model.proofs.FloorsOnce.{AreParts, floor_once}
use Rattle.point_model.proofs.SameSums.{Same, same-column, same-minus, same-times}

-- the values lie within the bounds of their columns and meet the flow rows
pub record IsSolution (net : Net) (value : Column → ℤ) : Type 0 where
  pub low : (c : Column) → IsColumn net c → pos (least_of net c) ≤ℤ value c
  pub high : (c : Column) → IsColumn net c → value c ≤ℤ pos (most_of net c)
  pub meets : AllMeet value (flow_rows net)

-- two such values of each column, with the same bits
pub record AreSolutions (net : Net) (value other : Column → ℤ) : Type 0 where
  pub valid : IsValid net
  pub one : IsSolution net value
  pub two : IsSolution net other
  pub bits : (t s : ℕ) (letter : Letter) → IsColumn net (Bit t s letter) → value (Bit t s letter) ≡ other (Bit t s letter)

-- ---- the rows of a cell at a step

pub record MeetsAt (net : Net) (value : Column → ℤ) (t i : ℕ) : Type 0 where
  pub room : AllMeet value (room_rows net.cells t i)
  pub split : AllMeet value (split_rows net.cells t i (cell_of net.cells i).out)
  pub moves : AllMeet value (least_rows (Flow t i) (move_terms net t i) (Switch t i))
  pub next : AllMeet value (conservation_rows net.cells net.steps t i)

pub meets_at : (net : Net) (value : Column → ℤ) (t i : ℕ) → IsSolution net value → IsPlace net t i → MeetsAt net value t i
unfolding flow_rows flow_rows_at
meets_at net value t i solution place =
    let room : List (SumRow Column) = room_rows net.cells t i in
    let split : List (SumRow Column) = split_rows net.cells t i (cell_of net.cells i).out in
    let moves : List (SumRow Column) = least_rows (Flow t i) (move_terms net t i) (Switch t i) in
    let next : List (SumRow Column) = conservation_rows net.cells net.steps t i in
    let met : AllMeet value (flow_rows_at net t i) =
    meets_part value (length net.cells) i (flow_rows_at net t) (meets_part value net.steps t (λ u. join_below (length net.cells) (flow_rows_at net u)) solution.meets place.before) place.inside in
    let last : AllMeet value (room ++ split ++ moves) × AllMeet value next = AllMeet-parts value (room ++ split ++ moves) next met in
    let third : AllMeet value (room ++ split) × AllMeet value moves = AllMeet-parts value (room ++ split) moves last.0 in
    let first : AllMeet value room × AllMeet value split = AllMeet-parts value room split third.0 in
    record { room = first.0; split = first.1; moves = third.1; next = last.1 }

-- a row that is there where a test holds
pub row_where : {C : Type 0} (value : C → ℤ) (test : Bool) (row : SumRow C) → test ≡ true → AllMeet value (if test then row ∷ [] else []) → Meets value row
row_where value true row holds met = met.0
row_where value false row holds met = absurd (cc)

-- ---- what cells hold, and their room

-- cells hold the same at step t
abbrev pub SameUnits : Net → (Column → ℤ) → (Column → ℤ) → ℕ → Type 0
SameUnits net value other t = (i : ℕ) → i < length net.cells → value (Units t i) ≡ other (Units t i)

-- so they have the same room
pub room_once : (net : Net) (value other : Column → ℤ) (t i : ℕ) → AreSolutions net value other → IsPlace net t i → SameUnits net value other t → has_room net.cells i ≡ true →
    (value (Room t i) ≡ other (Room t i)) × (value (RoomRest t i) ≡ other (RoomRest t i))
room_once net value other t i are place same has =
    let cell : Cell = cell_of net.cells i in
    let some : 1 < cell.wave_q = ltb-true 1 cell.wave_q (and_parts (nat_lt 1 cell.wave_q) (is_led_into net.cells i) has).0 in
    let part = times (pos cell.wave_p) (minus (number cell.store) (column (Units t i))) in
    let row : SumRow Column = floor_row (Room t i) (RoomRest t i) cell.wave_q part in
    let same_part : Same value other part =
    same-times value other (pos cell.wave_p) (minus (number cell.store) (column (Units t i)))
    (same-minus value other (number cell.store) (column (Units t i)) refl (same-column value other (Units t i) (same i place.inside))) in
    let parts : (x : Column → ℤ) → IsSolution net x → AreParts x (Room t i) (RoomRest t i) cell.wave_q =
    λ x solution. record { not_negative = solution.low (Room t i) (place, has); low = solution.low (RoomRest t i) (place, has); high = solution.high (RoomRest t i) (place, has) } in
    floor_once value other (Room t i) (RoomRest t i) cell.wave_q part (omega (arith, some)) same_part (parts value are.one) (parts other are.two)
    (row_where value (has_room net.cells i) row has (meets_at net value t i are.one place).room)
    (row_where other (has_room net.cells i) row has (meets_at net other t i are.two place).room)

-- the room of a cell, be it a column or not
pub same-room : (net : Net) (value other : Column → ℤ) (t b : ℕ) → AreSolutions net value other → IsPlace net t b → SameUnits net value other t → Same value other (room net.cells t b)
same-room net value other t b are place same =
    elim (cases_Bool (has_room net.cells b)) [
      | inl has ↦ rw has (same-column value other (Room t b) (room_once net value other t b are place same has).0)
      | inr none ↦
          rw none (same-minus value other (number (cell_of net.cells b).store) (column (Units t b)) refl (same-column value other (Units t b) (same b place.inside)))
    ]
