-- The rows of a move fit into a program: its columns are there, and its numbers are small.
use Rattle.std.proofs.Common.{◌≡◌, inl, inr, ℕ, suc, ◌+◌, ◌*◌, ◌/◌, ◌<◌, ◌≤◌, List, [], ◌∷◌, length, map, filter, get_or, refl, ap, arith}
use Rattle.std.specs.Prelude.{nat_lt, ℤ, pos, Option, Some, None, IfSome, unsigned_abs}
use Rattle.std.proofs.lemmas.Bool.{cases_Bool}
use Rattle.std.proofs.lemmas.Int.{ints}
use Rattle.std.proofs.lemmas.List.{length-append, length-map}
use Rattle.std.proofs.lemmas.Nat.{mul-le}
use Rattle.std.proofs.Math.Nat.{div-le_self}
use Rattle.ct_base.specs.Access.{cell_of, signal_of}
use Rattle.ct_base.specs.Validity.{IsGate, IsRoad, IsValid}
use Rattle.ct_base.specs.declared.cell.Cell.{Cell}
use Rattle.ct_base.specs.declared.cell.Gate.{Gate}
use Rattle.ct_base.specs.declared.cell.Out.{Out}
use Rattle.ct_base.specs.declared.cell.Out.TheVariants.{Exit, To, Turns}
use Rattle.ct_base.specs.declared.net.Net.{Net}
use Rattle.ct_base.specs.declared.plan.Letter.{Letter}
use Rattle.ct_base.specs.declared.signal.Signal.{Signal}
use Rattle.traffic_model.specs.Flow.{is_green_among, units_of_flow}
use Rattle.traffic_model.proofs.InflowLaws.{road_of}
use Rattle.sparse_program.specs.Program.{Begun}
use Rattle.sparse_program.specs.Terms.{weight}
use Rattle.sparse_program.specs.declared.limits.TheConstants.{MAX_ROWS}
use Rattle.program_model.specs.Columns.{Bit, BranchRoom, Column, Flow, Parcels, Room, Switch, Units, columns, has_room, letters_of, term_count}
use Rattle.program_model.specs.Existence.{IsLetterOf, IsPlace}
use Rattle.program_model.specs.FlowRows.{branch_term, branch_terms, further_terms, move_terms, room, room_most}
use Rattle.program_model.specs.Numbers.{number_of}
use Rattle.program_model.specs.Rows.{column}
use Rattle.program_model.specs.Sparse.{by_number}
use Rattle.program_model.specs.SwitchRows as model
use Rattle.program_model.specs.SwitchRows.{least_rows, lower_rows, upper_rows}
use Rattle.program_model.specs.Values.{most_room, most_units}
use Rattle.program_model.proofs.ColumnLaws.{Each, Each-at, letters_are}
use Rattle.program_model.proofs.FlowColumns.{further_terms_name, length-further_terms}
use Rattle.program_model.proofs.PlaceLaws.{column_stands}
use Rattle.program_model.proofs.PlanBits.{signal_is}
use Rattle.program_model.proofs.PlanMoves.{IsLedInto, to_is_led_into, turn_is_led_into}
use Rattle.program_model.proofs.RowColumns.{Names, each-filter}
use Rattle.flow_switches.specs.Conditions.{CapFits, MoveFits, TermFits, gate_columns}
use Rattle.flow_switches.specs.declared.term.Term.{Term}
use Rattle.lo_program.specs.inner.Moves.{gate_bits, term_by_number}
use Rattle.lo_program.proofs.BitLaws.{fewer_filtered}
use Rattle.program_columns.proofs.CapLaws.{units_small}
use Rattle.program_layout.proofs.CountLaws.{few_letters, few_terms}
use Rattle.lo_program.proofs.RowLaws.{columns_there}

-- ---- the numbers of terms

-- one column or none, and small numbers
record IsSmallTerm (net : Net) (term : model.Term Column) : Type 0 where
  few : length term.of.terms ≤ 1
  light : weight (by_number (number_of net) term.of.terms) ≤ 1
  constant : unsigned_abs term.of.constant ≤ 10000
  most : term.most ≤ 1000000

small_column : (net : Net) (c : Column) (most : ℕ) → most ≤ 1000000 → IsSmallTerm net (record { of = column c; most = most })
small_column net c most small = record { few = omega arith; light = omega arith; constant = omega arith; most = small }

-- the room of a road cell
small_most_room : (net : Net) (b : ℕ) → IsValid net → IsLedInto net b → most_room (cell_of net.cells b) ≤ 1000000
small_most_room net b valid led =
    let cell : Cell = cell_of net.cells b in
    let road : IsRoad cell = road_of net b valid led.within led.road in
    omega (arith, mul-le cell.wave_p cell.store 100 10000 (omega (arith, road.wave_p.1, road.wave_q)) road.store.1, div-le_self (cell.wave_p * cell.store) cell.wave_q)

small_room : (net : Net) (t b : ℕ) → IsValid net → IsLedInto net b → IsSmallTerm net (record { of = room net.cells t b; most = room_most net.cells t b })
small_room net t b valid led =
    let cell : Cell = cell_of net.cells b in
    let road : IsRoad cell = road_of net b valid led.within led.road in
    elim (cases_Bool (has_room net.cells b)) [
      | inl has ↦ rw has (small_column net (Room t b) (most_room cell) (small_most_room net b valid led))
      | inr none ↦ rw none (record { few = omega arith; light = omega arith; constant = omega (arith, ints, road.store.1); most = omega (arith, road.store.1) })
    ]

small_branch : (net : Net) (t i k : ℕ) (branch : ℕ × ℕ) → IsValid net → IsLedInto net branch.0 → IsSmallTerm net (branch_term net.cells t i k branch)
small_branch net t i k branch valid led =
    elim (cases_Bool (nat_lt 1 branch.1)) [
      | inl many ↦
          rw many (small_column net (BranchRoom t i k) (most_room (cell_of net.cells branch.0) / branch.1)
          (omega (arith, small_most_room net branch.0 valid led, div-le_self (most_room (cell_of net.cells branch.0)) branch.1)))
      | inr one ↦ rw one (small_room net t branch.0 valid led)
    ]

small_branches : (net : Net) (t i m : ℕ) (branches : List (ℕ × ℕ)) → IsValid net → ((k : ℕ) → k < length branches → IsLedInto net (get_or branches k (0, 1)).0) →
    Each (IsSmallTerm net) (branch_terms net.cells t i m branches)
small_branches net t i m [] valid led = tt
small_branches net t i m (branch ∷ branches) valid led =
    (small_branch net t i m branch valid (led 0 (omega arith)), small_branches net t i (m + 1) branches valid (λ k inside. led (suc k) (omega (arith, inside))))

small_further : (net : Net) (t i : ℕ) (out : Out) → IsValid net → IsPlace net t i → (cell_of net.cells i).out ≡ out → Each (IsSmallTerm net) (further_terms net.cells t i out)
small_further net t i Exit valid place is =
    (small_column net (Units t i) (most_units (cell_of net.cells i) t) (omega (arith, units_small net t i valid place.before place.inside)), tt)
small_further net t i (To b) valid place is = (
  small_column net (Units t i) (most_units (cell_of net.cells i) t) (omega (arith, units_small net t i valid place.before place.inside)),
  (small_room net t b valid (to_is_led_into net i b valid place.inside is), tt),
)
small_further net t i (Turns branches) valid place is = (
  small_column net (Parcels t i) (most_units (cell_of net.cells i) t / units_of_flow (Turns branches))
      (omega (arith, units_small net t i valid place.before place.inside, div-le_self (most_units (cell_of net.cells i) t) (units_of_flow (Turns branches)))),
  small_branches net t i 0 branches valid (λ k inside. turn_is_led_into net i branches k valid place.inside is inside),
)

-- ---- terms that fit

-- a small term of columns that are there fits beside few switches
term_fits : (net : Net) (count switches : ℕ) (term : model.Term Column) → count ≡ length (columns net) → switches ≤ 6 → Names net term.of → IsSmallTerm net term → TermFits count switches (term_by_number net term)
term_fits net count switches term all few names small = record {
  not_negative = omega (arith, ints);
  there = columns_there net count term.of.terms all names;
  few = omega (arith, few, small.few, length-map {B = ℕ × ℤ} term.of.terms (λ (one : Column × ℤ). (number_of net one.0, one.1)));
  light = omega (arith, ints, few, small.light, small.most);
  constant = omega (arith, ints, small.constant, small.most);
}

each_fits : (net : Net) (count switches : ℕ) (terms : List (model.Term Column)) → count ≡ length (columns net) → switches ≤ 6 → Each (λ (term : model.Term Column). Names net term.of) terms → Each (IsSmallTerm net) terms →
    Each (TermFits count switches) (map (term_by_number net) terms)
each_fits net count switches [] all few names small = tt
each_fits net count switches (term ∷ terms) all few names small = (term_fits net count switches term all few names.0 small.0, each_fits net count switches terms all few names.1 small.1)

-- ---- a cap that fits

-- the bits of a gate are columns, and few
bit_there : (net : Net) (t s : ℕ) (letters : List Letter) → t < net.steps → s < length net.signals → Each (IsLetterOf (signal_of net.signals s)) letters →
    Each (λ (n : ℕ). n < length (columns net)) (map (λ (letter : Letter). number_of net (Bit t s letter)) letters)
bit_there net t s [] before inside are = tt
bit_there net t s (letter ∷ letters) before inside are = ((column_stands net (Bit t s letter) (Bit t s letter) (before, inside, are.0)).0, bit_there net t s letters before inside are.1)

gate_there : (net : Net) (t : ℕ) (gate : Option Gate) → IsValid net → t < net.steps → IfSome gate (IsGate net.signals) →
    Each (λ (n : ℕ). n < length (columns net)) (gate_columns (gate_bits net t gate)) × (length (gate_columns (gate_bits net t gate)) ≤ 16)
gate_there net t None valid before gated = (tt, omega arith)
gate_there net t (Some gate) valid before gated =
    let signal : Signal = signal_of net.signals gate.signal in
    let greens : List Letter = filter (is_green_among gate.greens) (letters_of signal) in (
      bit_there net t gate.signal greens before gated.signal (each-filter (IsLetterOf signal) (is_green_among gate.greens) (letters_of signal) (letters_are signal)),
      omega (
        arith,
        length-map greens (λ (letter : Letter). number_of net (Bit t gate.signal letter)),
        fewer_filtered (is_green_among gate.greens) (letters_of signal),
        few_letters signal (signal_is net gate.signal valid gated.signal).phases.1,
      ),
    )

cap_fits : (net : Net) (t cap switches : ℕ) (gate : Option Gate) → IsValid net → t < net.steps → IfSome gate (IsGate net.signals) → cap ≤ 1000 → switches ≤ 6 →
    CapFits (length (columns net)) switches (pos cap) (gate_bits net t gate)
cap_fits net t cap switches gate valid before gated small few =
    let bits : List ℕ = gate_columns (gate_bits net t gate) in
    let there = gate_there net t gate valid before gated in
    record {
      not_negative = omega (arith, ints);
      there = λ k d inside. Each-at (λ (n : ℕ). n < length (columns net)) bits k d there.0 inside;
      few = omega (arith, there.1, few);
      light = omega (arith, ints, mul-le cap (length bits + 2) 1000 18 small (omega (arith, there.1)), few);
    }

-- ---- the whole move

length-lower_rows : (flow : Column) (switch : ℕ → Column) (count m : ℕ) (terms : List (model.Term Column)) → length (lower_rows flow switch count m terms) ≡ length terms
length-lower_rows flow switch count m [] = refl
length-lower_rows flow switch count m (term ∷ terms) = ap suc (length-lower_rows flow switch count (m + 1) terms)

length-upper_rows : (flow : Column) (switch : ℕ → Column) (m : ℕ) (terms : List (model.Term Column)) → length (upper_rows flow switch m terms) ≡ length terms
length-upper_rows flow switch m [] = refl
length-upper_rows flow switch m (term ∷ terms) = ap suc (length-upper_rows flow switch (m + 1) terms)

-- a row for all switches, and two for each term
pub length-least_rows : (flow : Column) (terms : List (model.Term Column)) (switch : ℕ → Column) → length (least_rows flow terms switch) ≡ 1 + 2 * length terms
unfolding least_rows
length-least_rows flow terms switch =
    omega (
      arith,
      length-append (lower_rows flow switch (length terms) 0 terms) (upper_rows flow switch 0 terms),
      length-lower_rows flow switch (length terms) 0 terms,
      length-upper_rows flow switch 0 terms,
    )

-- the move fits, by the numbers of its columns
fits_by_number : (net : Net) (program : Begun) (t i cap : ℕ) → IsValid net → t < net.steps → i < length net.cells → cap ≤ 1000 →
    length program.columns ≡ length (columns net) → length program.rows + length (least_rows (Flow t i) (move_terms net t i) (Switch t i)) ≤ MAX_ROWS →
    MoveFits program (number_of net (Flow t i)) (pos cap) (gate_bits net t (cell_of net.cells i).gate) (map (term_by_number net) (further_terms net.cells t i (cell_of net.cells i).out)) (number_of net (Flow t i) + 1)
fits_by_number net program t i cap valid before inside small all room =
    let place : IsPlace net t i = record { before = before; inside = inside } in
    let cell : Cell = cell_of net.cells i in
    let out : Out = cell.out in
    let further : List (model.Term Column) = further_terms net.cells t i out in
    let terms : List Term = map (term_by_number net) further in
    let count : length terms + 1 ≡ term_count out = omega (arith, length-map further (term_by_number net), length-further_terms net t i out) in
    let few : length terms + 1 ≤ 6 = omega (arith, count, few_terms out (valid.each_cell i inside).split) in
    let last : number_of net (Switch t i (length terms)) < length (columns net) = (column_stands net (Switch t i (length terms)) (Flow t i) (place, omega (arith, count))).0 in
    record {
      flow_there = omega (arith, all, (column_stands net (Flow t i) (Flow t i) place).0);
      switches_there = omega (arith, all, last);
      cap_fits = rw all (cap_fits net t cap (length terms + 1) cell.gate valid before (valid.each_cell i inside).gate small few);
      terms_fit = λ k d within. Each-at (TermFits (length program.columns) (length terms + 1)) terms k d (each_fits net (length program.columns) (length terms + 1) further all few (further_terms_name net t i out valid place refl) (small_further net t i out valid place refl)) within;
      room = omega (arith, room, length-least_rows (Flow t i) (move_terms net t i) (Switch t i), length-map further (term_by_number net));
    }

-- and so it does by other names for them
pub move_fits : (net : Net) (program : Begun) (t i flow cap : ℕ) (z : ℤ) (gate : Option (List ℕ)) (terms : List Term) → IsValid net → t < net.steps → i < length net.cells → cap ≤ 1000 →
    length program.columns ≡ length (columns net) → length program.rows + length (least_rows (Flow t i) (move_terms net t i) (Switch t i)) ≤ MAX_ROWS →
    flow ≡ number_of net (Flow t i) → z ≡ pos cap → gate ≡ gate_bits net t (cell_of net.cells i).gate → terms ≡ map (term_by_number net) (further_terms net.cells t i (cell_of net.cells i).out) →
    MoveFits program flow z gate terms (flow + 1)
move_fits net program t i flow cap z gate terms valid before inside small all room flow_is same gate_is terms_are =
    rw (flow_is, same, gate_is, terms_are) (fits_by_number net program t i cap valid before inside small all room)
