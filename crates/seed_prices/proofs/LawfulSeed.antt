-- The seed is lawful: it has a price for each row, none is too great, and none is below 0 on a row that need not be equal.
use Rattle.std.proofs.Common.{◌≡◌, ◌⊎◌, inl, inr, ℕ, ◌+◌, ◌*◌, ◌<◌, ◌≤◌, true, List, [], ◌∷◌, ◌++◌, length, get_or, All, refl, subst, ◌∙◌, sym, arith}
use Rattle.std.specs.Prelude.{ℤ, pos, ◌≤ℤ◌, unsigned_abs}
use Rattle.std.proofs.lemmas.Int.{ints}
use Rattle.std.proofs.lemmas.List.{get_or-map, length-append, length-map}
use Rattle.std.proofs.lemmas.List.Elements.{All-cons, All-nil}
use Rattle.listed.specs.Below.{join_below}
use Rattle.ct_base.specs.Access.{cell_of}
use Rattle.ct_base.specs.Validity.{IsValid}
use Rattle.ct_base.specs.declared.cell.Out.{Out}
use Rattle.ct_base.specs.declared.cell.Out.TheVariants.{Exit, To, Turns}
use Rattle.ct_base.specs.declared.net.Net.{Net}
use Rattle.sparse_program.specs.Program.{no_row, row_of}
use Rattle.sparse_program.specs.declared.row.Row.{Row}
use Rattle.traffic_model.specs.Flow.{units_of_flow}
use Rattle.program_model.specs.Columns.{Column, Flow, Switch}
use Rattle.program_model.specs.FlowRows.{branches_rows, conservation_rows, flow_rows, flow_rows_at, move_terms, room_rows, split_rows}
use Rattle.program_model.specs.Numbers.{number_of}
use Rattle.program_model.specs.Points.{program_of, rows}
use Rattle.program_model.specs.RuleRows.{rule_rows}
use Rattle.program_model.specs.Rows.{SumRow}
use Rattle.program_model.specs.Sparse.{sparse}
use Rattle.program_model.specs.SwitchRows.{Term, least_rows, lower_rows, upper_rows}
use Rattle.lo_program.proofs.ConservationLaws.{units_small}
use Rattle.certificate_model.specs.Value.{IsSigned, most_price, scale}
use Rattle.safe_bound.specs.Prices.{ArePrices, price_at}
use Rattle.seed_prices.specs.Seed.{lower_prices, move_prices, price_of_units, seed_at, seed_of, split_prices, unpriced}
use Rattle.seed_prices.proofs.Pairs.{EachPair, EachPair-append, EachPair-at, EachPair-join_below, EachPair-length}

-- a price is allowed on a row: it is not too great, and not below 0 where the row need not be equal
pub record IsAllowed (row : SumRow Column) (price : ℤ) : Type 0 where
  pub signed : (row.equal ≡ true) ⊎ (pos 0 ≤ℤ price)
  pub within : unsigned_abs price ≤ most_price

-- a price of 0 is allowed on each row
none_allowed : (row : SumRow Column) → IsAllowed row (pos 0)
none_allowed row = record { signed = inr (omega (arith, ints)); within = omega arith }

-- as many prices of 0 as rows
pub unpriced_allowed : (some : List (SumRow Column)) → EachPair IsAllowed some (unpriced some)
unpriced_allowed [] = tt
unpriced_allowed (row ∷ some) = (none_allowed row, unpriced_allowed some)

-- on the floors of a diverge
split_allowed : (net : Net) (t i : ℕ) (out : Out) → EachPair IsAllowed (split_rows net.cells t i out) (split_prices net.cells t i out)
split_allowed net t i Exit = tt
split_allowed net t i (To b) = tt
split_allowed net t i (Turns branches) = (record { signed = inl refl; within = omega (arith, ints) }, unpriced_allowed (branches_rows net.cells t i 0 branches))

-- on the lower and upper rows of terms, none
lowers_unpriced : (flow : Column) (switch : ℕ → Column) (count m : ℕ) (terms : List (Term Column)) → EachPair IsAllowed (lower_rows flow switch count m terms) (unpriced terms)
lowers_unpriced flow switch count m [] = tt
lowers_unpriced flow switch count m (term ∷ terms) = (none_allowed _, lowers_unpriced flow switch count (m + 1) terms)

uppers_unpriced : (flow : Column) (switch : ℕ → Column) (m : ℕ) (terms : List (Term Column)) → EachPair IsAllowed (upper_rows flow switch m terms) (unpriced terms)
uppers_unpriced flow switch m [] = tt
uppers_unpriced flow switch m (term ∷ terms) = (none_allowed _, uppers_unpriced flow switch (m + 1) terms)

lowers_allowed : (flow : Column) (switch : ℕ → Column) (count p : ℕ) (terms : List (Term Column)) → p ≤ most_price → EachPair IsAllowed (lower_rows flow switch count 0 terms) (lower_prices (pos p) terms)
lowers_allowed flow switch count p [] few = tt
lowers_allowed flow switch count p (cap ∷ []) few = (none_allowed _, tt)
lowers_allowed flow switch count p (cap ∷ sending ∷ receiving) few =
    (none_allowed _, (record { signed = inr (omega (arith, ints)); within = few }, lowers_unpriced flow switch count 2 receiving))

-- on the rows of a move
move_allowed : (flow : Column) (switch : ℕ → Column) (p : ℕ) (terms : List (Term Column)) → p ≤ most_price → EachPair IsAllowed (least_rows flow terms switch) (move_prices (pos p) terms)
unfolding least_rows
move_allowed flow switch p terms few = (
  none_allowed _,
  EachPair-append IsAllowed (lower_rows flow switch (length terms) 0 terms) (upper_rows flow switch 0 terms) (lower_prices (pos p) terms) (unpriced terms)
      (lowers_allowed flow switch (length terms) p terms few) (uppers_unpriced flow switch 0 terms),
)

-- the price of a unit of flow is not too great
price_few : (units : ℕ) → units ≤ 400 → scale * units ≤ most_price
price_few units few = omega (arith, few)

-- on the flow rows of a cell at a step
cell_allowed : (net : Net) (t i : ℕ) → IsValid net → i < length net.cells → EachPair IsAllowed (flow_rows_at net t i) (seed_at net t i)
unfolding flow_rows_at seed_at
cell_allowed net t i valid inside =
    let out : Out = (cell_of net.cells i).out in
    let room : List (SumRow Column) = room_rows net.cells t i in
    let floors : List (SumRow Column) = split_rows net.cells t i out in
    let move : List (SumRow Column) = least_rows (Flow t i) (move_terms net t i) (Switch t i) in
    let next : List (SumRow Column) = conservation_rows net.cells net.steps t i in
    let price : ℕ = scale * units_of_flow out in
    EachPair-append IsAllowed ((room ++ floors) ++ move) next ((unpriced room ++ split_prices net.cells t i out) ++ move_prices (pos price) (move_terms net t i)) (unpriced next)
    (EachPair-append IsAllowed (room ++ floors) move (unpriced room ++ split_prices net.cells t i out) (move_prices (pos price) (move_terms net t i))
    (EachPair-append IsAllowed room floors (unpriced room) (split_prices net.cells t i out) (unpriced_allowed room) (split_allowed net t i out))
    (move_allowed (Flow t i) (Switch t i) price (move_terms net t i) (price_few (units_of_flow out) (units_small out (valid.each_cell i inside).split))))
    (unpriced_allowed next)

-- as many prices as rows: of the room and the floors, with the move, and with the next step
pub parts_long : (net : Net) (t i : ℕ) → IsValid net → i < length net.cells →
    let out = (cell_of net.cells i).out in
    let before = room_rows net.cells t i ++ split_rows net.cells t i out in
    let prices = unpriced (room_rows net.cells t i) ++ split_prices net.cells t i out in
    (length (unpriced (room_rows net.cells t i)) ≡ length (room_rows net.cells t i)) × (length prices ≡ length before)
    × (length (prices ++ move_prices (price_of_units (units_of_flow out)) (move_terms net t i)) ≡ length (before ++ least_rows (Flow t i) (move_terms net t i) (Switch t i)))
parts_long net t i valid inside =
    let out : Out = (cell_of net.cells i).out in
    let rooms : List (SumRow Column) = room_rows net.cells t i in
    let floors : List (SumRow Column) = split_rows net.cells t i out in
    let move : List (SumRow Column) = least_rows (Flow t i) (move_terms net t i) (Switch t i) in
    let of_rooms : length (unpriced rooms) ≡ length rooms = EachPair-length IsAllowed rooms (unpriced rooms) (unpriced_allowed rooms) in
    let of_floors : length (split_prices net.cells t i out) ≡ length floors = EachPair-length IsAllowed floors (split_prices net.cells t i out) (split_allowed net t i out) in
    let price : ℕ = scale * units_of_flow out in
    let of_move : length (move_prices (pos price) (move_terms net t i)) ≡ length move =
    EachPair-length IsAllowed move (move_prices (pos price) (move_terms net t i))
    (move_allowed (Flow t i) (Switch t i) price (move_terms net t i) (price_few (units_of_flow out) (units_small out (valid.each_cell i inside).split))) in
    let of_both : length (unpriced rooms ++ split_prices net.cells t i out) ≡ length (rooms ++ floors) =
    length-append (unpriced rooms) (split_prices net.cells t i out) ∙ (omega (arith, of_rooms, of_floors)) ∙ sym (length-append rooms floors) in (
      of_rooms,
      of_both,
      length-append (unpriced rooms ++ split_prices net.cells t i out) (move_prices (pos price) (move_terms net t i)) ∙ (omega (arith, of_both, of_move)) ∙ sym (length-append (rooms ++ floors) move),
    )

-- on all flow rows, and on all rows
flows_allowed : (net : Net) → IsValid net → EachPair IsAllowed (flow_rows net) (join_below net.steps (λ t. join_below (length net.cells) (seed_at net t)))
unfolding flow_rows
flows_allowed net valid =
    EachPair-join_below IsAllowed net.steps (λ t. join_below (length net.cells) (flow_rows_at net t)) (λ t. join_below (length net.cells) (seed_at net t))
    (λ t before. EachPair-join_below IsAllowed (length net.cells) (flow_rows_at net t) (seed_at net t) (λ i inside. cell_allowed net t i valid inside))

pub seed_allowed : (net : Net) → IsValid net → EachPair IsAllowed (rows net) (seed_of net)
unfolding seed_of
seed_allowed net valid =
    EachPair-append IsAllowed (rule_rows net) (flow_rows net) (unpriced (rule_rows net)) (join_below net.steps (λ t. join_below (length net.cells) (seed_at net t)))
    (unpriced_allowed (rule_rows net)) (flows_allowed net valid)

-- as many prices as rows, at each level
pub length-seed_at : (net : Net) (t i : ℕ) → IsValid net → i < length net.cells → length (seed_at net t i) ≡ length (flow_rows_at net t i)
length-seed_at net t i valid inside = EachPair-length IsAllowed (flow_rows_at net t i) (seed_at net t i) (cell_allowed net t i valid inside)

pub length-seed_of : (net : Net) → IsValid net → length (seed_of net) ≡ length (rows net)
length-seed_of net valid = EachPair-length IsAllowed (rows net) (seed_of net) (seed_allowed net valid)

-- each price of allowed ones is not too great
prices_within : (some : List (SumRow Column)) (prices : List ℤ) → EachPair IsAllowed some prices → All (λ (price : ℤ). unsigned_abs price ≤ most_price) prices
prices_within [] [] each = All-nil (λ (price : ℤ). unsigned_abs price ≤ most_price)
prices_within [] (price ∷ prices) each = absurd each
prices_within (row ∷ some) [] each = absurd each
prices_within (row ∷ some) (price ∷ prices) each =
    All-cons (λ (other : ℤ). unsigned_abs other ≤ most_price) price prices each.0.within (prices_within some prices each.1)

-- what stands for a row that is not there
abbrev pub no_sum_row : SumRow Column
no_sum_row = record { equal = true; rhs = pos 0; sum = record { constant = pos 0; terms = [] } }

-- a row of the program
pub row_there : (net : Net) (i : ℕ) → i < length (rows net) → row_of (program_of net).rows i ≡ sparse (number_of net) (get_or (rows net) i no_sum_row)
unfolding program_of
row_there net i inside = get_or-map (sparse (number_of net)) (rows net) i no_sum_row no_row inside

pub rows_count : (net : Net) → length (program_of net).rows ≡ length (rows net)
unfolding program_of
rows_count net = length-map (rows net) (sparse (number_of net))

-- the seed is lawful
pub seed_is_lawful : (net : Net) → IsValid net → ArePrices (program_of net).rows (seed_of net)
seed_is_lawful net valid =
    record {
      one_per_row = length-seed_of net valid ∙ sym (rows_count net);
      within = prices_within (rows net) (seed_of net) (seed_allowed net valid);
      signed = λ i inside.
          let there : i < length (rows net) = omega (arith, inside, rows_count net) in
          subst (λ (row : Row). IsSigned row (price_at (seed_of net) i)) (sym (row_there net i there))
          (EachPair-at IsAllowed (rows net) (seed_of net) i no_sum_row (pos 0) (seed_allowed net valid) there).signed;
    }
