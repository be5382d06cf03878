-- The terms of each move count what its terms are in traffic, under an admissible plan.
use Rattle.std.proofs.Common.{◌≡◌, inl, inr, ℕ, suc, ◌+◌, ◌/◌, ◌<◌, ◌≤◌, true, List, [], ◌∷◌, length, map, get_or, refl, ap, subst, ◌∙◌, sym, arith}
use Rattle.std.specs.Prelude.{◌==◌, nat_lt, pos}
use Rattle.std.specs.List.{list_any}
use Rattle.std.proofs.Math.Nat.{div-one}
use Rattle.std.proofs.lemmas.Bool.{cases_Bool, eq-eqb, ltb-false}
use Rattle.std.proofs.lemmas.List.{get_or-map, length-map}
use Rattle.std.proofs.lemmas.List.Folds.{list_any_at}
use Rattle.ct_base.specs.Access.{cell_of, no_cell, parcel, targets}
use Rattle.ct_base.specs.Validity.{IsSplit, IsTarget, IsValid}
use Rattle.ct_base.specs.declared.cell.Cell.{Cell}
use Rattle.ct_base.specs.declared.cell.Kind.TheVariants.{Road}
use Rattle.ct_base.specs.declared.cell.Out.{Out}
use Rattle.ct_base.specs.declared.cell.Out.TheVariants.{Exit, To, Turns}
use Rattle.ct_base.specs.declared.net.Net.{Net}
use Rattle.ct_base.specs.declared.plan.Letter.{Letter}
use Rattle.ct_base.specs.declared.plan.Plan.{Plan}
use Rattle.traffic_model.specs.Delay.{letters_at}
use Rattle.traffic_model.specs.Flow.{cap_of, first_least, flow, further_terms as further_numbers, is_open, terms, units_of_flow}
use Rattle.traffic_model.specs.Occupancy.{occupancies}
use Rattle.traffic_model.specs.Runs.{IsAdmissiblePlan}
use Rattle.program_model.specs.Columns.{BranchRoom, Flow, Parcels, Switch, Units, is_led_into}
use Rattle.program_model.specs.FlowRows.{branch_term, branch_terms, further_terms, move_terms}
use Rattle.program_model.specs.Rows.{AllMeet, column, sum_at}
use Rattle.program_model.specs.SwitchRows.{least_rows}
use Rattle.program_model.specs.Values.{branch_of, most_room, most_units, one_where, room_at, units_at}
use Rattle.program_model.proofs.PlanBits.{gated_cap_is}
use Rattle.program_model.proofs.PlanFloors.{counted, div_rises, held-most, room-most, room-most_room, room_is}
use Rattle.program_model.proofs.PlanTerms.{Count, least_rows_are_met}
use Rattle.program_model.proofs.SumLaws.{sum_at-column}

-- a move leads into cell b: so it is a road cell that some move leads into
pub record IsLedInto (net : Net) (b : ℕ) : Type 0 where
  pub within : b < length net.cells
  pub road : (cell_of net.cells b).kind ≡ Road
  pub led : is_led_into net.cells b ≡ true

-- the targets of a move out of a cell of a valid network
pub target_is_led_into : (net : Net) (i k : ℕ) → IsValid net → i < length net.cells → k < length (targets (cell_of net.cells i).out) →
    IsLedInto net (get_or (targets (cell_of net.cells i).out) k 0)
target_is_led_into net i k valid inside there =
    let b : ℕ = get_or (targets (cell_of net.cells i).out) k 0 in
    let target : IsTarget net.cells i b = (valid.each_cell i inside).targets k 0 there in
    record {
      within = target.within;
      road = target.road;
      led = list_any_at (λ (cell : Cell). list_any (λ target. target == b) (targets cell.out)) net.cells i no_cell inside
          (list_any_at (λ target. target == b) (targets (cell_of net.cells i).out) k 0 there (eq-eqb b b refl));
    }

-- the cell of an ordinary move
pub to_is_led_into : (net : Net) (i b : ℕ) → IsValid net → i < length net.cells → (cell_of net.cells i).out ≡ To b → IsLedInto net b
to_is_led_into net i b valid inside is =
    let count : 0 < length (targets (cell_of net.cells i).out) = rw is (omega arith) in
    subst (λ (out : Out). IsLedInto net (get_or (targets out) 0 0)) is (target_is_led_into net i 0 valid inside count)

-- the cell of a branch
pub turn_is_led_into : (net : Net) (i : ℕ) (branches : List (ℕ × ℕ)) (j : ℕ) → IsValid net → i < length net.cells → (cell_of net.cells i).out ≡ Turns branches → j < length branches →
    IsLedInto net (get_or branches j (0, 1)).0
turn_is_led_into net i branches j valid inside is there =
    let count : j < length (targets (cell_of net.cells i).out) = rw (is, length-map branches (λ (branch : ℕ × ℕ). branch.0)) there in
    let led : IsLedInto net (get_or (targets (Turns branches)) j 0) = subst (λ (out : Out). IsLedInto net (get_or (targets out) j 0)) is (target_is_led_into net i j valid inside count) in
    subst (IsLedInto net) (get_or-map (λ (branch : ℕ × ℕ). branch.0) branches j (0, 1) 0 there) led

-- the term of a branch
branch_counts : (net : Net) (words : List (List Letter)) (t i k : ℕ) (branch : ℕ × ℕ) → IsValid net → IsLedInto net branch.0 → 1 ≤ branch.1 →
    branch_of (cell_of net.cells i).out k ≡ branch →
    Count (counted net words) (room_at net words t branch.0 / branch.1 ∷ []) (branch_term net.cells t i k branch ∷ [])
branch_counts net words t i k branch valid led some is =
    elim (cases_Bool (nat_lt 1 branch.1)) [
      | inl many ↦
          rw many (
            (
              sum_at-column (counted net words) (BranchRoom t i k) ∙ ap (λ (b : ℕ × ℕ). pos (room_at net words t b.0 / b.1)) is,
              div_rises (room_at net words t branch.0) (most_room (cell_of net.cells branch.0)) branch.1 (room-most_room net words t branch.0),
            ),
            tt,
          )
      | inr one ↦
          let single : branch.1 ≡ 1 = omega (arith, some, ltb-false 1 branch.1 one) in
          let whole : room_at net words t branch.0 / branch.1 ≡ room_at net words t branch.0 = ap (λ n. room_at net words t branch.0 / n) single ∙ div-one (room_at net words t branch.0) in
          rw (one, whole) ((room_is net words t branch.0 valid led.within led.road led.led, room-most net words t branch.0 valid led.within led.road led.led), tt)
    ]

-- those of branches, of which the first has number k
branches_count : (net : Net) (words : List (List Letter)) (t i k : ℕ) (branches : List (ℕ × ℕ)) → IsValid net →
    ((j : ℕ) → j < length branches → IsLedInto net (get_or branches j (0, 1)).0) → ((j : ℕ) → j < length branches → 1 ≤ (get_or branches j (0, 1)).1) →
    ((j : ℕ) → j < length branches → branch_of (cell_of net.cells i).out (k + j) ≡ get_or branches j (0, 1)) →
    Count (counted net words) (map (λ (branch : ℕ × ℕ). room_at net words t branch.0 / branch.1) branches) (branch_terms net.cells t i k branches)
branches_count net words t i k [] valid led some are = tt
branches_count net words t i k (branch ∷ branches) valid led some are =
    let first : k + 0 ≡ k = omega arith in (
      (branch_counts net words t i k branch valid (led 0 (omega arith)) (some 0 (omega arith)) (ap (branch_of (cell_of net.cells i).out) (sym first) ∙ are 0 (omega arith))).0,
      branches_count net words t i (k + 1) branches valid (λ j inside. led (suc j) (omega (arith, inside))) (λ j inside. some (suc j) (omega (arith, inside)))
          (λ j inside. let next : k + 1 + j ≡ k + suc j = omega arith in ap (branch_of (cell_of net.cells i).out) next ∙ are (suc j) (omega (arith, inside))),
    )

-- the sending term of an ordinary move or an exit
sending_counts : (net : Net) (words : List (List Letter)) (t i : ℕ) → IsValid net → i < length net.cells →
    (sum_at (counted net words) (column (Units t i)) ≡ pos (units_at net words t i)) × (units_at net words t i ≤ most_units (cell_of net.cells i) t)
sending_counts net words t i valid inside = (sum_at-column (counted net words) (Units t i), held-most net words t i valid inside)

-- the sending and receiving terms
further_count : (net : Net) (words : List (List Letter)) (t i : ℕ) (out : Out) → IsValid net → i < length net.cells → (cell_of net.cells i).out ≡ out →
    Count (counted net words) (further_numbers net.cells (occupancies net.cells (letters_at words) t) i out) (further_terms net.cells t i out)
further_count net words t i Exit valid inside is = (sending_counts net words t i valid inside, tt)
further_count net words t i (To b) valid inside is =
    let led : IsLedInto net b = to_is_led_into net i b valid inside is in (
      sending_counts net words t i valid inside,
      ((room_is net words t b valid led.within led.road led.led, room-most net words t b valid led.within led.road led.led), tt),
    )
further_count net words t i (Turns branches) valid inside is =
    let split : IsSplit (Turns branches) = subst IsSplit is (valid.each_cell i inside).split in
    let units : units_of_flow (cell_of net.cells i).out ≡ parcel branches = ap units_of_flow is in (
      (
        sum_at-column (counted net words) (Parcels t i) ∙ ap (λ n. pos (units_at net words t i / n)) units,
        div_rises (units_at net words t i) (most_units (cell_of net.cells i) t) (parcel branches) (held-most net words t i valid inside),
      ),
      branches_count net words t i 0 branches valid
          (λ j there. turn_is_led_into net i branches j valid inside is there)
          (λ j there. (split.2 j (0, 1) there).0)
          (λ j there. let at : 0 + j ≡ j = omega arith in ap (λ (out : Out). branch_of out (0 + j)) is ∙ ap (branch_of (Turns branches)) at),
    )

-- all terms of a move
move_counts : (net : Net) (plan : Plan) (t i : ℕ) → IsValid net → IsAdmissiblePlan net plan → t < net.steps → i < length net.cells →
    Count (counted net plan.words) (terms net.cells (letters_at plan.words t) (occupancies net.cells (letters_at plan.words) t) i) (move_terms net t i)
move_counts net plan t i valid admissible before inside =
    let cell : Cell = cell_of net.cells i in
    let cap : ℕ = cap_of net.cells cell cell.out in (
      (
        gated_cap_is net plan t cap cell.gate valid admissible before (valid.each_cell i inside).gate,
        elim (cases_Bool (is_open (letters_at plan.words t) cell.gate)) [ inl opens ↦ rw opens (omega arith) | inr closed ↦ rw closed (omega arith) ],
      ),
      further_count net plan.words t i cell.out valid inside refl,
    )

-- the rows of a move are met by its flow and its first least term
pub move_rows_are_met : (net : Net) (plan : Plan) (t i : ℕ) → IsValid net → IsAdmissiblePlan net plan → t < net.steps → i < length net.cells →
    AllMeet (counted net plan.words) (least_rows (Flow t i) (move_terms net t i) (Switch t i))
unfolding flow
move_rows_are_met net plan t i valid admissible before inside =
    let numbers : List ℕ = terms net.cells (letters_at plan.words t) (occupancies net.cells (letters_at plan.words) t) i in
    least_rows_are_met (counted net plan.words) numbers (move_terms net t i) (Flow t i) (Switch t i) (λ m. one_where (m == first_least numbers))
    (move_counts net plan t i valid admissible before inside) (omega arith) refl (λ m. refl) (λ m. refl)
