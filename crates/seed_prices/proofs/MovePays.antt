-- What the seed pays for the rows of one cell at one step: at most what the cell holds less what leaves it.
use Rattle.std.proofs.Common.{◌≡◌, ℕ, ◌+◌, ◌-◌, ◌*◌, ◌/◌, ◌<◌, ◌≤◌, List, [], ◌∷◌, ◌++◌, length, refl, ap, ◌∙◌, sym, arith}
use Rattle.std.specs.Prelude.{ℤ, pos, ◌+ℤ◌, ◌-ℤ◌, ◌*ℤ◌, ◌≤ℤ◌}
use Rattle.std.proofs.Math.Nat.{mul-le-mul_left}
use Rattle.std.proofs.Math.IntN.{pos-*ℤ-pos}
use Rattle.std.proofs.lemmas.Int.{ints}
use Rattle.std.proofs.lemmas.List.{map-append}
use borrow.Author.Differences.{up, down}
use Rattle.listed.specs.Below.{sum_below, table_of}
use Rattle.listed.proofs.WholeSums.{times_sum}
use Rattle.ct_base.specs.Access.{cell_of}
use Rattle.ct_base.specs.Validity.{IsValid}
use Rattle.ct_base.specs.declared.cell.Cell.{Cell}
use Rattle.ct_base.specs.declared.cell.Out.{Out}
use Rattle.ct_base.specs.declared.cell.Out.TheVariants.{Exit, To, Turns}
use Rattle.ct_base.specs.declared.net.Net.{Net}
use Rattle.traffic_model.specs.Flow.{cap_of, units_of_flow}
use Rattle.program_model.specs.Columns.{Column, Flow, Parcels, ParcelsRest, Switch, Units}
use Rattle.program_model.specs.FlowRows.{branch_terms, branches_rows, conservation_rows, flow_rows_at, further_terms, gated_cap, move_terms, room, room_most, room_rows, split_rows}
use Rattle.program_model.specs.Rows.{Sum, SumRow, column, minus, plus, sum_at, times, total}
use Rattle.program_model.specs.SwitchRows.{Term, floor_row, least_rows, lower_row, lower_rows, upper_rows}
use Rattle.program_model.specs.Values.{most_units}
use Rattle.program_model.proofs.Products.{times_times}
use Rattle.program_model.proofs.SumLaws.{sum_at-column, sum_at-minus, sum_at-plus, sum_at-times, sum_at-total_of_table}
use Rattle.certificate_model.specs.Value.{scale}
use Rattle.seed_prices.specs.Seed.{move_prices, price_of_units, seed_at, split_prices, unpriced}
use Rattle.seed_prices.proofs.LawfulSeed.{parts_long}
use Rattle.seed_prices.proofs.Paid.{excess, paid, paid-append, paid-unpriced}

-- a natural number of times a greater number
pub grows : (n : ℕ) (a b : ℤ) → a ≤ℤ b → (pos n *ℤ a) ≤ℤ (pos n *ℤ b)
grows n a b le =
    let more : n * (up a + down b) ≤ n * (up b + down a) = mul-le-mul_left n (omega (arith, ints)) in
    omega (arith, ints, more)

-- ---- a move

-- a lower row of a term comes to at most the term less the flow
lower_excess : (w : Column → ℕ) (flow : Column) (switch : ℕ → Column) (count m : ℕ) (of : Sum Column) →
    excess (λ c. pos (w c)) (lower_row flow switch count m of) ≤ℤ (sum_at (λ c. pos (w c)) of -ℤ pos (w flow))
lower_excess w flow switch count m of =
    let value : Column → ℤ = λ c. pos (w c) in
    let later : Sum Column = total (table_of (count - (m + 1)) (λ k. switch (m + 1 + k))) in
    let on : sum_at value later ≡ pos (sum_below (count - (m + 1)) (λ k. w (switch (m + 1 + k)))) =
    sum_at-total_of_table value (count - (m + 1)) (λ k. switch (m + 1 + k)) (λ k. w (switch (m + 1 + k))) (λ k inside. refl) in
    omega (arith, ints, sum_at-minus value (minus of (column flow)) later, sum_at-minus value of (column flow), sum_at-column value flow, on)

-- only the lower row of the second term is paid
move_is_paid : (value : Column → ℤ) (flow : Column) (switch : ℕ → Column) (price : ℤ) (cap sending : Term Column) (receiving : List (Term Column)) →
    paid value (least_rows flow (cap ∷ sending ∷ receiving) switch) (move_prices price (cap ∷ sending ∷ receiving))
    ≡ price *ℤ excess value (lower_row flow switch (length (cap ∷ sending ∷ receiving)) 1 sending.of)
unfolding least_rows
move_is_paid value flow switch price cap sending receiving =
    let terms : List (Term Column) = cap ∷ sending ∷ receiving in
    let count : ℕ = length terms in
    let last : List (SumRow Column) = lower_rows flow switch count 2 receiving ++ upper_rows flow switch 0 terms in
    let none : paid value last (unpriced receiving ++ unpriced terms) ≡ pos 0 =
    ap (paid value last) (sym (map-append (λ (term : Term Column). pos 0) receiving terms)) ∙ paid-unpriced value last (receiving ++ terms) in
    omega (arith, ints, none)

-- so a move is paid at most the price of what its cell can send less its flow
move_pays : (w : Column → ℕ) (flow : Column) (switch : ℕ → Column) (p : ℕ) (cap sending : Term Column) (receiving : List (Term Column)) →
    paid (λ c. pos (w c)) (least_rows flow (cap ∷ sending ∷ receiving) switch) (move_prices (pos p) (cap ∷ sending ∷ receiving))
    ≤ℤ (pos p *ℤ (sum_at (λ c. pos (w c)) sending.of -ℤ pos (w flow)))
move_pays w flow switch p cap sending receiving =
    let value : Column → ℤ = λ c. pos (w c) in
    let row : SumRow Column = lower_row flow switch (length (cap ∷ sending ∷ receiving)) 1 sending.of in
    let most : (pos p *ℤ excess value row) ≤ℤ (pos p *ℤ (sum_at value sending.of -ℤ pos (w flow))) =
    grows p (excess value row) (sum_at value sending.of -ℤ pos (w flow)) (lower_excess w flow switch (length (cap ∷ sending ∷ receiving)) 1 sending.of) in
    omega (arith, ints, move_is_paid value flow switch (pos p) cap sending receiving, most)

-- ---- a cell at a step

-- what the cell holds less what leaves it, in 1024ths of a unit of delay
abbrev pub held_back : (Column → ℕ) → ℕ → ℕ → Out → ℤ
held_back w t i out = pos scale *ℤ (pos (w (Units t i)) -ℤ pos (units_of_flow out) *ℤ pos (w (Flow t i)))

-- of the floors of a diverge, that of its parcels is paid
parcels_are_paid : (w : Column → ℕ) (cells : List Cell) (t i : ℕ) (branches : List (ℕ × ℕ)) →
    paid (λ c. pos (w c)) (split_rows cells t i (Turns branches)) (split_prices cells t i (Turns branches))
    ≡ pos scale *ℤ (pos (w (Units t i)) -ℤ pos (units_of_flow (Turns branches)) *ℤ pos (w (Parcels t i)) -ℤ pos (w (ParcelsRest t i)))
parcels_are_paid w cells t i branches =
    let value : Column → ℤ = λ c. pos (w c) in
    let units : ℕ = units_of_flow (Turns branches) in
    let whole : Sum Column = times (pos units) (column (Parcels t i)) in
    let row : SumRow Column = floor_row (Parcels t i) (ParcelsRest t i) units (column (Units t i)) in
    let none : paid value (branches_rows cells t i 0 branches) (unpriced (branches_rows cells t i 0 branches)) ≡ pos 0 =
    paid-unpriced value (branches_rows cells t i 0 branches) (branches_rows cells t i 0 branches) in
    let comes : excess value row ≡ pos units *ℤ pos (w (Parcels t i)) +ℤ pos (w (ParcelsRest t i)) -ℤ pos (w (Units t i)) =
    omega (
      arith,
      ints,
      sum_at-minus value (plus whole (column (ParcelsRest t i))) (column (Units t i)),
      sum_at-plus value whole (column (ParcelsRest t i)),
      sum_at-times value (pos units) (column (Parcels t i)),
      ap (λ (z : ℤ). pos units *ℤ z) (sum_at-column value (Parcels t i)),
      sum_at-column value (ParcelsRest t i),
      sum_at-column value (Units t i),
    ) in
    omega (arith, ints, none, comes)

-- the price of so many units, times a difference
price_times : (units : ℕ) (a b : ℤ) → pos (scale * units) *ℤ (a -ℤ b) ≡ pos scale *ℤ (pos units *ℤ a -ℤ pos units *ℤ b)
price_times units a b =
    let apart : pos units *ℤ ((a -ℤ b) +ℤ b) ≡ pos units *ℤ (a -ℤ b) +ℤ pos units *ℤ b = times_sum (pos units) (a -ℤ b) b in
    let back : pos units *ℤ ((a -ℤ b) +ℤ b) ≡ pos units *ℤ a = ap (λ (z : ℤ). pos units *ℤ z) (omega (arith, ints)) in
    let scaled : pos (scale * units) *ℤ (a -ℤ b) ≡ pos scale *ℤ (pos units *ℤ (a -ℤ b)) =
    ap (λ (z : ℤ). z *ℤ (a -ℤ b)) (sym (pos-*ℤ-pos scale units)) ∙ times_times (pos scale) (pos units) (a -ℤ b) in
    let difference : pos units *ℤ (a -ℤ b) ≡ pos units *ℤ a -ℤ pos units *ℤ b = omega (arith, ints, apart, back) in
    scaled ∙ ap (λ (z : ℤ). pos scale *ℤ z) difference

-- floors and move together
split_and_move_pay : (w : Column → ℕ) (cells : List Cell) (t i : ℕ) (out : Out) (cap : Term Column) →
    (paid (λ c. pos (w c)) (split_rows cells t i out) (split_prices cells t i out)
    +ℤ paid (λ c. pos (w c)) (least_rows (Flow t i) (cap ∷ further_terms cells t i out) (Switch t i)) (move_prices (price_of_units (units_of_flow out)) (cap ∷ further_terms cells t i out)))
    ≤ℤ held_back w t i out
split_and_move_pay w cells t i Exit cap =
    let value : Column → ℤ = λ c. pos (w c) in
    let sending : Term Column = record { of = column (Units t i); most = most_units (cell_of cells i) t } in
    omega (arith, ints, move_pays w (Flow t i) (Switch t i) (scale * 1) cap sending [], sum_at-column value (Units t i))
split_and_move_pay w cells t i (To b) cap =
    let value : Column → ℤ = λ c. pos (w c) in
    let sending : Term Column = record { of = column (Units t i); most = most_units (cell_of cells i) t } in
    let receiving : Term Column = record { of = room cells t b; most = room_most cells t b } in
    omega (arith, ints, move_pays w (Flow t i) (Switch t i) (scale * 1) cap sending (receiving ∷ []), sum_at-column value (Units t i))
split_and_move_pay w cells t i (Turns branches) cap =
    let value : Column → ℤ = λ c. pos (w c) in
    let units : ℕ = units_of_flow (Turns branches) in
    let sending : Term Column = record { of = column (Parcels t i); most = most_units (cell_of cells i) t / units } in
    let moves = move_pays w (Flow t i) (Switch t i) (scale * units) cap sending (branch_terms cells t i 0 branches) in
    let parcels : sum_at value (column (Parcels t i)) ≡ pos (w (Parcels t i)) = sum_at-column value (Parcels t i) in
    omega (arith, ints, rw parcels at moves, parcels_are_paid w cells t i branches, price_times units (pos (w (Parcels t i))) (pos (w (Flow t i))))

-- what prices pay for the flow rows of a cell at a step
pub cell_pays : (net : Net) (w : Column → ℕ) (t i : ℕ) → IsValid net → i < length net.cells →
    paid (λ c. pos (w c)) (flow_rows_at net t i) (seed_at net t i) ≤ℤ held_back w t i (cell_of net.cells i).out
unfolding flow_rows_at seed_at
cell_pays net w t i valid inside =
    let value : Column → ℤ = λ c. pos (w c) in
    let out : Out = (cell_of net.cells i).out in
    let price : ℤ = price_of_units (units_of_flow out) in
    let rooms : List (SumRow Column) = room_rows net.cells t i in
    let floors : List (SumRow Column) = split_rows net.cells t i out in
    let floor_prices : List ℤ = split_prices net.cells t i out in
    let move : List (SumRow Column) = least_rows (Flow t i) (move_terms net t i) (Switch t i) in
    let next : List (SumRow Column) = conservation_rows net.cells net.steps t i in
    let lengths = parts_long net t i valid inside in
    let cap : Term Column = record { of = gated_cap net.signals t (cap_of net.cells (cell_of net.cells i) out) (cell_of net.cells i).gate; most = cap_of net.cells (cell_of net.cells i) out } in
    omega (
      arith,
      ints,
      paid-append value ((rooms ++ floors) ++ move) next ((unpriced rooms ++ floor_prices) ++ move_prices price (move_terms net t i)) (unpriced next) lengths.2,
      paid-append value (rooms ++ floors) move (unpriced rooms ++ floor_prices) (move_prices price (move_terms net t i)) lengths.1,
      paid-append value rooms floors (unpriced rooms) floor_prices lengths.0,
      paid-unpriced value rooms rooms,
      paid-unpriced value next next,
      split_and_move_pay w net.cells t i out cap,
    )
