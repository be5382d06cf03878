-- Each flow row names columns of the network alone.
use Rattle.std.proofs.Common.{◌≡◌, inl, inr, ℕ, suc, ◌+◌, ◌-◌, ◌<◌, ◌≤◌, List, [], ◌∷◌, length, map, filter, get_or, refl, ap, subst, arith}
use Rattle.std.specs.Prelude.{nat_lt, ℤ, pos, Option, Some, None, IfSome}
use Rattle.std.proofs.lemmas.Bool.{cases_Bool, ltb-true}
use Rattle.std.proofs.lemmas.List.{get_or_default}
use Rattle.listed.specs.Below.{table_of}
use Rattle.ct_base.specs.Access.{cell_of, signal_of}
use Rattle.ct_base.specs.Validity.{IsGate, IsValid}
use Rattle.ct_base.specs.declared.cell.Gate.{Gate}
use Rattle.ct_base.specs.declared.cell.Out.{Out}
use Rattle.ct_base.specs.declared.cell.Out.TheVariants.{Exit, To, Turns}
use Rattle.ct_base.specs.declared.net.Net.{Net}
use Rattle.ct_base.specs.declared.signal.Signal.{Signal}
use Rattle.traffic_model.specs.Flow.{cap_of, is_green_among, share, units_of_flow}
use Rattle.program_model.specs.Columns.{BranchRest, BranchRoom, Bit, Column, Flow, Parcels, ParcelsRest, Room, RoomRest, Switch, Units, has_room, letters_of, term_count}
use Rattle.program_model.specs.Existence.{HasFloor, IsColumn, IsDiverge, IsLetterOf, IsPlace}
use Rattle.program_model.specs.FlowRows.{branch_rows, branch_terms, branches_rows, conservation_rows, entering, flow_rows, flow_rows_at, further_terms, gated_cap, move_terms, room, room_rows, split_rows}
use Rattle.program_model.specs.Rows.{Sum, column, minus, number, plus, times, total}
use Rattle.program_model.specs.SwitchRows.{Term, floor_row, least_rows, lower_rows, upper_rows}
use Rattle.program_model.proofs.ColumnLaws.{Each, Each-append, Each-join_below, Each-table_of, letters_are}
use Rattle.program_model.proofs.PlanMoves.{IsLedInto, to_is_led_into, turn_is_led_into}
use Rattle.program_model.proofs.RowColumns.{Names, RowNames, bits_named, each-filter, names-minus, names-plus, names-times, names-total}

-- ---- terms and floors

-- the room of a cell that a move leads into
room_names : (net : Net) (t i b : ℕ) → IsPlace net t i → IsLedInto net b → Names net (room net.cells t b)
room_names net t i b place led =
    elim (cases_Bool (has_room net.cells b)) [
      | inl has ↦ rw has ((record { before = place.before; inside = led.within }, has), tt)
      | inr none ↦ rw none (names-minus net (number (cell_of net.cells b).store) (column (Units t b)) tt (record { before = place.before; inside = led.within }, tt))
    ]

floor_names : (net : Net) (whole rest : Column) (divisor : ℕ) (of : Sum Column) → IsColumn net whole → IsColumn net rest → Names net of → RowNames net (floor_row whole rest divisor of)
floor_names net whole rest divisor of is_whole is_rest names =
    names-minus net (plus (times (pos divisor) (column whole)) (column rest)) of
    (names-plus net (times (pos divisor) (column whole)) (column rest) (is_whole, tt) (is_rest, tt)) names

room_rows_name : (net : Net) (t i : ℕ) → IsPlace net t i → Each (RowNames net) (room_rows net.cells t i)
room_rows_name net t i place =
    elim (cases_Bool (has_room net.cells i)) [
      | inl has ↦
          rw has (
            floor_names net (Room t i) (RoomRest t i) (cell_of net.cells i).wave_q (times (pos (cell_of net.cells i).wave_p) (minus (number (cell_of net.cells i).store) (column (Units t i))))
                (place, has) (place, has)
                (names-times net (pos (cell_of net.cells i).wave_p) (minus (number (cell_of net.cells i).store) (column (Units t i)))
                (names-minus net (number (cell_of net.cells i).store) (column (Units t i)) tt (place, tt))),
            tt,
          )
      | inr none ↦ rw none tt
    ]

-- what is so of branches, of which the first has number m
abbrev AreBranches : Net → ℕ → ℕ → ℕ → List (ℕ × ℕ) → Type 0
AreBranches net t i m branches =
    ((k : ℕ) → k < length branches → IsLedInto net (get_or branches k (0, 1)).0)
    × ((k : ℕ) → k < length branches → 1 < (get_or branches k (0, 1)).1 → HasFloor (cell_of net.cells i).out (m + k))

-- the branches behind the first
later_branches : (net : Net) (t i m : ℕ) (branch : ℕ × ℕ) (branches : List (ℕ × ℕ)) → AreBranches net t i m (branch ∷ branches) → AreBranches net t i (m + 1) branches
later_branches net t i m branch branches are = (
  (λ k inside. are.0 (suc k) (omega (arith, inside))),
  (λ k inside many. let next : m + suc k ≡ m + 1 + k = omega arith in subst (HasFloor (cell_of net.cells i).out) next (are.1 (suc k) (omega (arith, inside)) many)),
)

first_floor : (net : Net) (t i m : ℕ) (branch : ℕ × ℕ) (branches : List (ℕ × ℕ)) → AreBranches net t i m (branch ∷ branches) → 1 < branch.1 → HasFloor (cell_of net.cells i).out m
first_floor net t i m branch branches are many = let first : m + 0 ≡ m = omega arith in subst (HasFloor (cell_of net.cells i).out) first (are.1 0 (omega arith) many)

branches_rows_name : (net : Net) (t i m : ℕ) (branches : List (ℕ × ℕ)) → IsPlace net t i → AreBranches net t i m branches → Each (RowNames net) (branches_rows net.cells t i m branches)
branches_rows_name net t i m [] place are = tt
branches_rows_name net t i m (branch ∷ branches) place are =
    Each-append (RowNames net) (branch_rows net.cells t i m branch) (branches_rows net.cells t i (m + 1) branches)
    (elim (cases_Bool (nat_lt 1 branch.1)) [
      | inl many ↦
          let floor : HasFloor (cell_of net.cells i).out m = first_floor net t i m branch branches are (ltb-true 1 branch.1 many) in
          rw many (floor_names net (BranchRoom t i m) (BranchRest t i m) branch.1 (room net.cells t branch.0) (place, floor) (place, floor) (room_names net t i branch.0 place (are.0 0 (omega arith))), tt)
      | inr one ↦ rw one tt
    ])
    (branches_rows_name net t i (m + 1) branches place (later_branches net t i m branch branches are))

branch_terms_name : (net : Net) (t i m : ℕ) (branches : List (ℕ × ℕ)) → IsPlace net t i → AreBranches net t i m branches → Each (λ (term : Term Column). Names net term.of) (branch_terms net.cells t i m branches)
branch_terms_name net t i m [] place are = tt
branch_terms_name net t i m (branch ∷ branches) place are = (
  elim (cases_Bool (nat_lt 1 branch.1)) [
    | inl many ↦ rw many ((place, first_floor net t i m branch branches are (ltb-true 1 branch.1 many)), tt)
    | inr one ↦ rw one (room_names net t i branch.0 place (are.0 0 (omega arith)))
  ],
  branch_terms_name net t i (m + 1) branches place (later_branches net t i m branch branches are),
)

-- the branches of a move
branches_are : (net : Net) (t i : ℕ) (branches : List (ℕ × ℕ)) → IsValid net → IsPlace net t i → (cell_of net.cells i).out ≡ Turns branches → AreBranches net t i 0 branches
branches_are net t i branches valid place is = (
  (λ k inside. turn_is_led_into net i branches k valid place.inside is inside),
  (λ k inside many. let at : 0 + k ≡ k = omega arith in
      rw (at, is) (record { inside = inside; many = rw (get_or_default branches k (0, 0) (0, 1) inside) many })),
)

split_rows_name : (net : Net) (t i : ℕ) (out : Out) → IsValid net → IsPlace net t i → (cell_of net.cells i).out ≡ out → Each (RowNames net) (split_rows net.cells t i out)
split_rows_name net t i Exit valid place is = tt
split_rows_name net t i (To b) valid place is = tt
split_rows_name net t i (Turns branches) valid place is =
    let diverge : IsDiverge (cell_of net.cells i).out = rw is tt in (
      floor_names net (Parcels t i) (ParcelsRest t i) (units_of_flow (Turns branches)) (column (Units t i)) (place, diverge) (place, diverge) (place, tt),
      branches_rows_name net t i 0 branches place (branches_are net t i branches valid place is),
    )

pub further_terms_name : (net : Net) (t i : ℕ) (out : Out) → IsValid net → IsPlace net t i → (cell_of net.cells i).out ≡ out → Each (λ (term : Term Column). Names net term.of) (further_terms net.cells t i out)
further_terms_name net t i Exit valid place is = ((place, tt), tt)
further_terms_name net t i (To b) valid place is =
    let led : IsLedInto net b = to_is_led_into net i b valid place.inside is in
    ((place, tt), (room_names net t i b place led, tt))
further_terms_name net t i (Turns branches) valid place is =
    let diverge : IsDiverge (cell_of net.cells i).out = rw is tt in
    (((place, diverge), tt), branch_terms_name net t i 0 branches place (branches_are net t i branches valid place is))

gated_cap_names : (net : Net) (t cap : ℕ) (gate : Option Gate) → t < net.steps → IfSome gate (IsGate net.signals) → Names net (gated_cap net.signals t cap gate)
gated_cap_names net t cap None before gated = tt
gated_cap_names net t cap (Some gate) before gated =
    let signal : Signal = signal_of net.signals gate.signal in
    let greens = filter (is_green_among gate.greens) (letters_of signal) in
    names-times net (pos cap) (total (map (Bit t gate.signal) greens))
    (names-total net (map (Bit t gate.signal) greens) (bits_named net t gate.signal greens before gated.signal (each-filter (IsLetterOf signal) (is_green_among gate.greens) (letters_of signal) (letters_are signal))))

-- ---- moves

-- as many terms as switches
length-branch_terms : (net : Net) (t i m : ℕ) (branches : List (ℕ × ℕ)) → length (branch_terms net.cells t i m branches) ≡ length branches
length-branch_terms net t i m [] = refl
length-branch_terms net t i m (branch ∷ branches) = ap suc (length-branch_terms net t i (m + 1) branches)

pub length-further_terms : (net : Net) (t i : ℕ) (out : Out) → length (further_terms net.cells t i out) + 1 ≡ term_count out
length-further_terms net t i Exit = refl
length-further_terms net t i (To b) = refl
length-further_terms net t i (Turns branches) = omega (arith, length-branch_terms net t i 0 branches)

lower_rows_name : (net : Net) (flow : Column) (switch : ℕ → Column) (count m : ℕ) (terms : List (Term Column)) → IsColumn net flow → ((k : ℕ) → k < count → IsColumn net (switch k)) → Each (λ (term : Term Column). Names net term.of) terms →
    Each (RowNames net) (lower_rows flow switch count m terms)
lower_rows_name net flow switch count m [] is_flow switches each = tt
lower_rows_name net flow switch count m (term ∷ terms) is_flow switches each = (
  names-minus net (minus term.of (column flow)) (total (table_of (count - (m + 1)) (λ k. switch (m + 1 + k))))
      (names-minus net term.of (column flow) each.0 (is_flow, tt))
      (names-total net (table_of (count - (m + 1)) (λ k. switch (m + 1 + k))) (Each-table_of (IsColumn net) (count - (m + 1)) (λ k. switch (m + 1 + k)) (λ k few. switches (m + 1 + k) (omega (arith, few))))),
  lower_rows_name net flow switch count (m + 1) terms is_flow switches each.1,
)

upper_rows_name : (net : Net) (flow : Column) (switch : ℕ → Column) (count m : ℕ) (terms : List (Term Column)) → IsColumn net flow → ((k : ℕ) → k < count → IsColumn net (switch k)) → m + length terms ≤ count →
    Each (λ (term : Term Column). Names net term.of) terms → Each (RowNames net) (upper_rows flow switch m terms)
upper_rows_name net flow switch count m [] is_flow switches few each = tt
upper_rows_name net flow switch count m (term ∷ terms) is_flow switches few each = (
  names-minus net (minus (column flow) term.of) (times (pos term.most) (column (switch m)))
      (names-minus net (column flow) term.of (is_flow, tt) each.0) (switches m (omega (arith, few)), tt),
  upper_rows_name net flow switch count (m + 1) terms is_flow switches (omega (arith, few)) each.1,
)

pub least_rows_name : (net : Net) (flow : Column) (switch : ℕ → Column) (terms : List (Term Column)) → IsColumn net flow → ((k : ℕ) → k < length terms → IsColumn net (switch k)) → Each (λ (term : Term Column). Names net term.of) terms →
    Each (RowNames net) (least_rows flow terms switch)
unfolding least_rows
least_rows_name net flow switch terms is_flow switches each = (
  names-total net (table_of (length terms) switch) (Each-table_of (IsColumn net) (length terms) switch switches),
  Each-append (RowNames net) (lower_rows flow switch (length terms) 0 terms) (upper_rows flow switch 0 terms)
      (lower_rows_name net flow switch (length terms) 0 terms is_flow switches each)
      (upper_rows_name net flow switch (length terms) 0 terms is_flow switches (omega arith) each),
)

-- ---- the next step

entering_names : (net : Net) (t i : ℕ) → t < net.steps → Names net (entering net.cells t i)
entering_names net t i before =
    Each-table_of (λ (term : Column × ℤ). IsColumn net term.0) (length net.cells) (λ j. (Flow t j, pos (share (cell_of net.cells j).out i))) (λ j inside. record { before = before; inside = inside })

conservation_rows_name : (net : Net) (t i : ℕ) → IsPlace net t i → Each (RowNames net) (conservation_rows net.cells net.steps t i)
conservation_rows_name net t i place =
    elim (cases_Bool (nat_lt (t + 1) net.steps)) [
      | inl goes_on ↦
          let next : IsPlace net (t + 1) i = record { before = ltb-true (t + 1) net.steps goes_on; inside = place.inside } in
          rw goes_on (
            names-plus net (minus (column (Units (t + 1) i)) (column (Units t i))) (minus (times (pos (units_of_flow (cell_of net.cells i).out)) (column (Flow t i))) (entering net.cells t i))
                (names-minus net (column (Units (t + 1) i)) (column (Units t i)) (next, tt) (place, tt))
                (names-minus net (times (pos (units_of_flow (cell_of net.cells i).out)) (column (Flow t i))) (entering net.cells t i) (place, tt) (entering_names net t i place.before)),
            tt,
          )
      | inr last ↦ rw last tt
    ]

-- ---- all flow rows

flow_rows_name_at : (net : Net) (t i : ℕ) → IsValid net → IsPlace net t i → Each (RowNames net) (flow_rows_at net t i)
unfolding flow_rows_at
flow_rows_name_at net t i valid place =
    let out : Out = (cell_of net.cells i).out in
    let terms : List (Term Column) = move_terms net t i in
    Each-append (RowNames net) _ _ (Each-append (RowNames net) _ _ (Each-append (RowNames net) (room_rows net.cells t i) (split_rows net.cells t i out)
    (room_rows_name net t i place) (split_rows_name net t i out valid place refl))
    (least_rows_name net (Flow t i) (Switch t i) terms place (λ k few. (place, omega (arith, few, length-further_terms net t i out))) (
      gated_cap_names net t (cap_of net.cells (cell_of net.cells i) out) (cell_of net.cells i).gate place.before (valid.each_cell i place.inside).gate,
      further_terms_name net t i out valid place refl,
    )))
    (conservation_rows_name net t i place)

pub flow_rows_name : (net : Net) → IsValid net → Each (RowNames net) (flow_rows net)
unfolding flow_rows
flow_rows_name net valid =
    Each-join_below (RowNames net) net.steps _ (λ t before. Each-join_below (RowNames net) (length net.cells) (flow_rows_at net t)
    (λ i inside. flow_rows_name_at net t i valid (record { before = before; inside = inside })))
