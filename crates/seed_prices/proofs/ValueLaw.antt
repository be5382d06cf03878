-- The value of the seed is at least 0. What it comes to in a box is what it comes to at one of the box's corners; there the rows of each
-- move are paid at most what its cell holds back, and that is what the columns cost.
use Rattle.std.proofs.Common.{◌≡◌, ℕ, suc, ◌+◌, ◌*◌, ◌<◌, ◌≤◌, true, List, length, get_or, ap, subst, ◌∙◌, sym, arith}
use Rattle.std.specs.Prelude.{ℤ, pos, negsuc, ◌+ℤ◌, ◌-ℤ◌, ◌*ℤ◌, ◌≤ℤ◌, unsigned_abs}
use Rattle.std.specs.Int.{int_min}
use Rattle.std.proofs.Math.Nat.{mul-le-mul_left}
use Rattle.std.proofs.Math.IntN.{*ℤ_comm}
use Rattle.std.proofs.lemmas.Int.{clamps, ints}
use Rattle.std.proofs.lemmas.List.{get_or-map, length-map}
use borrow.Author.Differences.{up, down}
use Rattle.listed.specs.Below.{join_below, whole_sum_below}
use Rattle.listed.proofs.WholeSums.{times_sum, whole_sum_below-le, whole_sum_below-mul, whole_sum_below-same, whole_sum_below-sub}
use Rattle.ct_base.specs.Validity.{IsValid}
use Rattle.ct_base.specs.declared.net.Net.{Net}
use Rattle.sparse_program.specs.Box.{Ranges, high_of, low_of}
use Rattle.sparse_program.specs.Program.{col_of, column_of, no_col, row_of, terms_of}
use Rattle.sparse_program.specs.Terms.{terms_sum}
use Rattle.sparse_program.specs.declared.column.Col.{Col}
use Rattle.sparse_program.specs.declared.row.Row.{Row}
use Rattle.sparse_program.proofs.TermLaws.{sum_times}
use Rattle.program_model.specs.Columns.{Column, Units, columns}
use Rattle.program_model.specs.FlowRows.{flow_rows, flow_rows_at}
use Rattle.program_model.specs.Numbers.{number_of}
use Rattle.program_model.specs.Points.{col, program_of, rows}
use Rattle.program_model.specs.RuleRows.{rule_rows}
use Rattle.program_model.specs.Rows.{SumRow, terms_at}
use Rattle.program_model.specs.Sparse.{sparse}
use Rattle.program_model.specs.Values.{cost_of, least_of}
use Rattle.program_model.proofs.Products.{times_times}
use Rattle.program_model.proofs.SparseLaws.{terms_sum-sparse}
use Rattle.certificate_model.specs.Value.{column_value, cost_counted, reduced_cost, scale, value}
use Rattle.certificate_model.proofs.PointLaws.{columns_there, rows_there}
use Rattle.certificate_model.proofs.ValueLaws.{sums_meet}
use Rattle.safe_bound.specs.Prices.{price_at}
use Rattle.seed_prices.specs.Seed.{BeginsWithin, seed_at, seed_of, unpriced}
use Rattle.seed_prices.proofs.Costs.{all_costs, costs_from-places, kept_units}
use Rattle.seed_prices.proofs.LawfulSeed.{length-seed_at, length-seed_of, no_sum_row, row_there, rows_count}
use Rattle.seed_prices.proofs.MovePays.{cell_pays, grows}
use Rattle.seed_prices.proofs.Paid.{excess, length-joins, paid, paid-append, paid-join_below, paid-places, paid-unpriced}

-- ---- a corner

-- the bound at which a reduced cost comes to its least
abbrev better : ℤ → ℤ → ℤ → ℕ
better (pos n) low high = unsigned_abs low
better (negsuc n) low high = unsigned_abs high

-- a negative number of times a greater number
falls : (n : ℕ) (a b : ℤ) → a ≤ℤ b → (negsuc n *ℤ b) ≤ℤ (negsuc n *ℤ a)
falls n a b le =
    let more : suc n * (up a + down b) ≤ suc n * (up b + down a) = mul-le-mul_left (suc n) (omega (arith, ints)) in
    omega (arith, ints, more)

-- it comes to no less between them
least_at : (cost low high : ℤ) → pos 0 ≤ℤ low → low ≤ℤ high → (cost *ℤ pos (better cost low high)) ≤ℤ int_min (cost *ℤ low) (cost *ℤ high)
least_at (pos n) low high above le =
    let is : pos (unsigned_abs low) ≡ low = omega (arith, ints, above) in
    let here : pos n *ℤ pos (better (pos n) low high) ≡ pos n *ℤ low = ap (λ (z : ℤ). pos n *ℤ z) is in
    omega (arith, ints, clamps, here, grows n low high le)
least_at (negsuc n) low high above le =
    let is : pos (unsigned_abs high) ≡ high = omega (arith, ints, above, le) in
    let here : negsuc n *ℤ pos (better (negsuc n) low high) ≡ negsuc n *ℤ high = ap (λ (z : ℤ). negsuc n *ℤ z) is in
    omega (arith, ints, clamps, here, falls n low high le)

-- ---- the value at a point

-- a difference times a value
times_less : (c s x : ℤ) → (c -ℤ s) *ℤ x ≡ c *ℤ x -ℤ x *ℤ s
times_less c s x =
    let whole : ((c -ℤ s) +ℤ s) *ℤ x ≡ (c -ℤ s) *ℤ x +ℤ s *ℤ x = sum_times (c -ℤ s) s x in
    let back : ((c -ℤ s) +ℤ s) *ℤ x ≡ c *ℤ x = ap (λ (z : ℤ). z *ℤ x) (omega (arith, ints)) in
    omega (arith, ints, whole, back, *ℤ_comm s x)

-- a value times a difference
times_difference : (p a b : ℤ) → p *ℤ (a -ℤ b) ≡ p *ℤ a -ℤ p *ℤ b
times_difference p a b =
    let whole : p *ℤ ((a -ℤ b) +ℤ b) ≡ p *ℤ (a -ℤ b) +ℤ p *ℤ b = times_sum p (a -ℤ b) b in
    let back : p *ℤ ((a -ℤ b) +ℤ b) ≡ p *ℤ a = ap (λ (z : ℤ). p *ℤ z) (omega (arith, ints)) in
    omega (arith, ints, whole, back)

-- what a row of the program comes to beyond its right side
row_excess : (net : Net) (x : ℕ → ℤ) (i : ℕ) → i < length (rows net) →
    terms_sum (terms_of (program_of net).rows i) x -ℤ (row_of (program_of net).rows i).rhs ≡ excess (λ c. x (number_of net c)) (get_or (rows net) i no_sum_row)
row_excess net x i inside =
    let row : SumRow Column = get_or (rows net) i no_sum_row in
    let sum : terms_sum (sparse (number_of net) row).terms x ≡ terms_at (λ c. x (number_of net c)) row.sum.terms = terms_sum-sparse x (number_of net) row in
    ap (λ (r : Row). terms_sum r.terms x -ℤ r.rhs) (row_there net i inside) ∙ (omega (arith, ints, sum))

-- what the prices pay for all rows beyond their right sides
rows_paid : (net : Net) (x : ℕ → ℤ) → IsValid net →
    whole_sum_below (length (program_of net).rows) (λ i. price_at (seed_of net) i *ℤ terms_sum (terms_of (program_of net).rows i) x)
    -ℤ whole_sum_below (length (program_of net).rows) (λ i. price_at (seed_of net) i *ℤ (row_of (program_of net).rows i).rhs)
    ≡ paid (λ c. x (number_of net c)) (rows net) (seed_of net)
rows_paid net x valid =
    let n : ℕ = length (program_of net).rows in
    let p : ℕ → ℤ = price_at (seed_of net) in
    let sum : ℕ → ℤ = λ i. terms_sum (terms_of (program_of net).rows i) x in
    let side : ℕ → ℤ = λ i. (row_of (program_of net).rows i).rhs in
    let at : ℕ → ℤ = λ i. p i *ℤ excess (λ c. x (number_of net c)) (get_or (rows net) i no_sum_row) in
    sym (whole_sum_below-sub n (λ i. p i *ℤ sum i) (λ i. p i *ℤ side i))
    ∙ whole_sum_below-same n (λ i. p i *ℤ sum i -ℤ p i *ℤ side i) at
    (λ i inside. sym (times_difference (p i) (sum i) (side i)) ∙ ap (λ (z : ℤ). p i *ℤ z) (row_excess net x i (omega (arith, inside, rows_count net))))
    ∙ ap (λ m. whole_sum_below m at) (rows_count net)
    ∙ paid-places (λ c. x (number_of net c)) (rows net) (seed_of net) no_sum_row (length-seed_of net valid)

-- what the columns cost, in 1024ths
columns_cost : (net : Net) (x : ℕ → ℤ) → whole_sum_below (length (program_of net).columns) (λ j. cost_counted (program_of net) true j *ℤ x j)
    ≡ pos scale *ℤ whole_sum_below net.steps (λ t. whole_sum_below (length net.cells) (kept_units net x t))
unfolding program_of
columns_cost net x =
    let n : ℕ = length (columns net) in
    let cost : ℕ → ℤ = λ j. cost_of net (get_or (columns net) j (Units 0 0)) in
    let counted : ℕ → ℤ = λ j. cost_counted (program_of net) true j *ℤ x j in
    ap (λ m. whole_sum_below m counted) (columns_there net)
    ∙ whole_sum_below-same n counted (λ j. pos scale *ℤ (cost j *ℤ x j))
    (λ j inside. ap (λ (c : Col). (pos scale *ℤ c.cost) *ℤ x j) (get_or-map (col net) (columns net) j (Units 0 0) no_col inside) ∙ times_times (pos scale) (cost j) (x j))
    ∙ whole_sum_below-mul n (pos scale) (λ j. cost j *ℤ x j)
    ∙ ap (λ (z : ℤ). pos scale *ℤ z)
    (whole_sum_below-same n (λ j. cost j *ℤ x j) (λ j. cost j *ℤ x (0 + j)) (λ j inside. ap (λ k. cost j *ℤ x k) (omega arith))
    ∙ costs_from-places net x 0 (columns net) (Units 0 0) ∙ all_costs net x)

-- the rows are paid at most what the columns cost
paid_at_most : (net : Net) (corner : ℕ → ℕ) → IsValid net →
    paid (λ c. pos (corner (number_of net c))) (rows net) (seed_of net) ≤ℤ
    (pos scale *ℤ whole_sum_below net.steps (λ t. whole_sum_below (length net.cells) (kept_units net (λ j. pos (corner j)) t)))
unfolding seed_of flow_rows
paid_at_most net corner valid =
    let w : Column → ℕ = λ c. corner (number_of net c) in
    let v : Column → ℤ = λ c. pos (w c) in
    let kept : ℕ → ℕ → ℤ = kept_units net (λ j. pos (corner j)) in
    let cells : ℕ → List (SumRow Column) = λ t. join_below (length net.cells) (flow_rows_at net t) in
    let prices : ℕ → List ℤ = λ t. join_below (length net.cells) (seed_at net t) in
    let long : (t : ℕ) → length (prices t) ≡ length (cells t) = λ t. length-joins (length net.cells) (seed_at net t) (flow_rows_at net t) (λ i inside. length-seed_at net t i valid inside) in
    let of_step : (t : ℕ) → paid v (cells t) (prices t) ≤ℤ (pos scale *ℤ whole_sum_below (length net.cells) (kept t)) = λ t.
    let apart : paid v (cells t) (prices t) ≡ whole_sum_below (length net.cells) (λ i. paid v (flow_rows_at net t i) (seed_at net t i)) =
    paid-join_below v (length net.cells) (flow_rows_at net t) (seed_at net t) (λ i inside. length-seed_at net t i valid inside) in
    let below : whole_sum_below (length net.cells) (λ i. paid v (flow_rows_at net t i) (seed_at net t i)) ≤ℤ whole_sum_below (length net.cells) (λ i. pos scale *ℤ kept t i) =
    whole_sum_below-le (length net.cells) (λ i. paid v (flow_rows_at net t i) (seed_at net t i)) (λ i. pos scale *ℤ kept t i) (λ i inside. cell_pays net w t i valid inside) in
    omega (arith, ints, apart, below, whole_sum_below-mul (length net.cells) (pos scale) (kept t)) in
    let steps : paid v (flow_rows net) (join_below net.steps prices) ≡ whole_sum_below net.steps (λ t. paid v (cells t) (prices t)) = paid-join_below v net.steps cells prices (λ t inside. long t) in
    let total : whole_sum_below net.steps (λ t. paid v (cells t) (prices t)) ≤ℤ whole_sum_below net.steps (λ t. pos scale *ℤ whole_sum_below (length net.cells) (kept t)) =
    whole_sum_below-le net.steps (λ t. paid v (cells t) (prices t)) (λ t. pos scale *ℤ whole_sum_below (length net.cells) (kept t)) (λ t inside. of_step t) in
    omega (
      arith,
      ints,
      paid-append v (rule_rows net) (flow_rows net) (unpriced (rule_rows net)) (join_below net.steps prices) (length-map (rule_rows net) (λ (row : SumRow Column). pos 0)),
      paid-unpriced v (rule_rows net) (rule_rows net),
      steps,
      total,
      whole_sum_below-mul net.steps (pos scale) (λ t. whole_sum_below (length net.cells) (kept t)),
    )

-- a low of the box is not below 0, since no column's is
low_not_below : (net : Net) (box : Ranges) (j : ℕ) → BeginsWithin (program_of net).columns box → j < length (program_of net).columns → pos 0 ≤ℤ low_of box j
unfolding program_of
low_not_below net box j begins inside =
    let there : j < length (columns net) = omega (arith, inside, columns_there net) in
    let is : col_of (program_of net).columns j ≡ col net (get_or (columns net) j (Units 0 0)) = get_or-map (col net) (columns net) j (Units 0 0) no_col there in
    let low : pos (least_of net (get_or (columns net) j (Units 0 0))) ≤ℤ low_of box j = subst (λ (c : Col). c.low ≤ℤ low_of box j) is (begins.low j inside) in
    omega (arith, ints, low)

-- the value of the seed is at least 0
pub seed_value : (net : Net) (box : Ranges) → IsValid net → BeginsWithin (program_of net).columns box → pos 0 ≤ℤ value (program_of net) true box (price_at (seed_of net))
unfolding value
seed_value net box valid begins =
    let program = program_of net in
    let n : ℕ = length program.columns in
    let p : ℕ → ℤ = price_at (seed_of net) in
    let cost : ℕ → ℤ = reduced_cost program true p in
    let corner : ℕ → ℕ = λ j. better (cost j) (low_of box j) (high_of box j) in
    let x : ℕ → ℤ = λ j. pos (corner j) in
    let costs : ℕ → ℤ = λ j. cost_counted program true j *ℤ x j in
    let back : ℕ → ℤ = λ j. x j *ℤ terms_sum (column_of program.rows j) p in
    let at_corner : whole_sum_below n (λ j. cost j *ℤ x j) ≤ℤ whole_sum_below n (λ j. column_value box (cost j) j) =
    whole_sum_below-le n (λ j. cost j *ℤ x j) (λ j. column_value box (cost j) j)
    (λ j inside. least_at (cost j) (low_of box j) (high_of box j) (low_not_below net box j begins inside) (begins.bounds j inside)) in
    let less : whole_sum_below n (λ j. cost j *ℤ x j) ≡ whole_sum_below n costs -ℤ whole_sum_below n back =
    whole_sum_below-same n (λ j. cost j *ℤ x j) (λ j. costs j -ℤ back j) (λ j inside. times_less (cost_counted program true j) (terms_sum (column_of program.rows j) p) (x j))
    ∙ whole_sum_below-sub n costs back in
    omega (
      arith,
      ints,
      at_corner,
      less,
      sums_meet n program.rows p x (rows_there net valid),
      rows_paid net x valid,
      columns_cost net x,
      paid_at_most net corner valid,
    )
