-- Laws of values that are kept: where one price changes, and where one bound does; how great they are.
use Rattle.std.proofs.Common.{◌≡◌, ◌≢◌, Bool, All, ℕ, ◌*◌, ◌<◌, ◌≤◌, ◌^◌, true, List, length, get_or, ap, ◌∙◌, sym, arith, get_or-set_other, get_or-set_same}
use Rattle.std.specs.Prelude.{ℤ, pos, ◌+ℤ◌, ◌-ℤ◌, ◌*ℤ◌, unsigned_abs, FitsSigned}
use Rattle.std.specs.Int.{int_min, w64}
use Rattle.std.proofs.Math.IntN.{*ℤ_comm}
use Rattle.std.proofs.Math.Nat.{mul-le-mul}
use Rattle.std.proofs.lemmas.Int.{fits_signed_from_abs, ints, unsigned_abs-mul}
use Rattle.std.proofs.lemmas.List.{get_or_default, length-set}
use mir.Val.{of_z, to_z}
use Rattle.listed.specs.Below.{whole_sum_below}
use Rattle.listed.proofs.WholeSums.{times_sum, whole_sum_below-same}
use Rattle.sparse_program.specs.Box.{IsBox, Ranges, high_of, low_of}
use Rattle.sparse_program.specs.Program.{IsProgram, IsRow, Parts, entry, no_row, row_of, terms_of}
use Rattle.sparse_program.specs.declared.row.Row.{Row}
use Rattle.sparse_program.proofs.MatrixLaws.{column_sum}
use Rattle.sparse_program.proofs.TermLaws.{sum_times}
use Rattle.certificate_model.specs.Value.{column_value, most_price, reduced_cost, value}
use Rattle.safe_bound.specs.Prices.{ArePrices, price_at}
use Rattle.safe_bound.proofs.CostedLaws.{column_value-small, cost_counted-small, with_high, with_low, whole_sum_below-changed, whole_sum_below-small}
use Rattle.safe_bound.proofs.PaidLaws.{coefficient-small}
use Rattle.kept_value.specs.Kept.{IsKeptOf, IsSlope, Kept, best_bound, gain_of, goes_to_low, reduced_at, repriced, standing}
use Rattle.sparse_program.specs.Terms.{terms_sum}
use Rattle.kept_value.specs.inner.Charged.{AreModest, IsSteepest, charged, least_of, stands_at}
use Rattle.kept_value.proofs.ChargedLaws.{terms_sum-same}

-- ---- how great they are

-- a product of small numbers
product_within : (a b : ℤ) (m n : ℕ) → unsigned_abs a ≤ m → unsigned_abs b ≤ n → unsigned_abs (a *ℤ b) ≤ m * n
product_within a b m n first second = omega (arith, unsigned_abs-mul a b, mul-le-mul first second)

-- lawful prices are not great
pub price-small : (rows : List Row) (prices : List ℤ) (i : ℕ) → ArePrices rows prices → i < length rows → unsigned_abs (price_at prices i) ≤ 2 ^ 40
price-small rows prices i lawful within = lawful.within i (pos 0) (omega (arith, lawful.one_per_row))

-- the rows of a program
row_is : (program : Parts) (i : ℕ) → IsProgram program → i < length program.rows → IsRow (length program.columns) (row_of program.rows i)
row_is program i is within = is.built.each_row i no_row within

-- a reduced cost is no greater than prices of all rows can make it
pub reduced_cost-small : (program : Parts) (prices : List ℤ) (j : ℕ) → IsProgram program → ArePrices program.rows prices → j < length program.columns → unsigned_abs (reduced_cost program true (price_at prices) j) ≤ 2 ^ 79
reduced_cost-small program prices j is lawful within =
    let sum : unsigned_abs (whole_sum_below (length program.rows) (λ i. entry program.rows i j *ℤ price_at prices i)) ≤ length program.rows * (2 ^ 20 * 2 ^ 40) =
    whole_sum_below-small (length program.rows) (2 ^ 20 * 2 ^ 40) (λ i. entry program.rows i j *ℤ price_at prices i)
    (λ i below. product_within (entry program.rows i j) (price_at prices i) (2 ^ 20) (2 ^ 40)
    (coefficient-small (terms_of program.rows i) (2 ^ 20) j (row_is program i is below).terms.rises (row_is program i is below).terms.small) (price-small program.rows prices i lawful below)) in
    let few : length program.rows ≤ 400000 = is.built.few_rows in
    omega (arith, ints, sum, few, column_sum program.rows j (price_at prices), cost_counted-small program true j is within)

-- the value of lawful prices is small
pub value-small : (program : Parts) (box : Ranges) (prices : List ℤ) → IsProgram program → IsBox box → length box.lows ≡ length program.columns → ArePrices program.rows prices →
    unsigned_abs (value program true box (price_at prices)) < 2 ^ 120
unfolding value
value-small program box prices is box_is columns lawful =
    let sides : unsigned_abs (whole_sum_below (length program.rows) (λ i. price_at prices i *ℤ (row_of program.rows i).rhs)) ≤ length program.rows * (2 ^ 40 * 2 ^ 20) =
    whole_sum_below-small (length program.rows) (2 ^ 40 * 2 ^ 20) (λ i. price_at prices i *ℤ (row_of program.rows i).rhs)
    (λ i below. product_within (price_at prices i) (row_of program.rows i).rhs (2 ^ 40) (2 ^ 20) (price-small program.rows prices i lawful below) (row_is program i is below).rhs) in
    let least : unsigned_abs (whole_sum_below (length program.columns) (λ j. column_value box (reduced_cost program true (price_at prices) j) j)) ≤ length program.columns * 2 ^ 99 =
    whole_sum_below-small (length program.columns) (2 ^ 99) (λ j. column_value box (reduced_cost program true (price_at prices) j) j)
    (λ j below. omega (arith, reduced_cost-small program prices j is lawful below, column_value-small box (reduced_cost program true (price_at prices) j) j (box_is.each j (omega (arith, below, columns))))) in
    let few : length program.rows ≤ 400000 = is.built.few_rows in
    let few_columns : length program.columns ≤ 2 ^ 20 = is.built.few_columns in
    omega (arith, ints, sides, least, few, few_columns)

-- what is kept of a column is no greater
pub kept-modest : (program : Parts) (kept : Kept) → IsProgram program → IsKeptOf program kept → AreModest kept.reduced
kept-modest program kept is of = record {
  each = λ j below.
      let within : j < length program.columns = omega (arith, below, of.one_per_column) in
      omega (arith, ints, of.reduced j within, reduced_cost-small program kept.prices j is of.lawful within);
}

-- a change from lawful prices to lawful prices
pub change-small : (rows : List Row) (prices : List ℤ) (row : ℕ) (by : ℤ) → ArePrices rows prices → ArePrices rows (repriced prices row by) → row < length rows → unsigned_abs by ≤ 2 * most_price
change-small rows prices row by lawful again within =
    let there : row < length prices = omega (arith, within, lawful.one_per_row) in
    let new : price_at (repriced prices row by) row ≡ price_at prices row +ℤ by = get_or-set_same prices row (price_at prices row +ℤ by) (pos 0) there in
    omega (arith, ints, new, price-small rows prices row lawful within, price-small rows (repriced prices row by) row again within)

-- the changed price
pub repriced-small : (rows : List Row) (prices : List ℤ) (row : ℕ) (by : ℤ) → ArePrices rows prices → ArePrices rows (repriced prices row by) → row < length rows → unsigned_abs (price_at prices row +ℤ by) ≤ 2 ^ 40
repriced-small rows prices row by lawful again within =
    let there : row < length prices = omega (arith, within, lawful.one_per_row) in
    let new : price_at (repriced prices row by) row ≡ price_at prices row +ℤ by = get_or-set_same prices row (price_at prices row +ℤ by) (pos 0) there in
    rw new at (price-small rows (repriced prices row by) row again within)

-- as the code computes it
pub price-shown : (rows : List Row) (prices : List ℤ) (row : ℕ) (by old : ℤ) → ArePrices rows prices → ArePrices rows (repriced prices row by) → row < length rows → old ≡ get_or prices row old →
    to_z w64 (of_z w64 (to_z w64 (of_z w64 old) +ℤ to_z w64 (of_z w64 by))) ≡ price_at prices row +ℤ by
price-shown rows prices row by old lawful again within is =
    let old_is : old ≡ price_at prices row = is ∙ get_or_default prices row old (pos 0) (omega (arith, within, lawful.one_per_row)) in
    omega (arith, ints, old_is, price-small rows prices row lawful within, change-small rows prices row by lawful again within, repriced-small rows prices row by lawful again within)

-- which fits
pub price-fits : (rows : List Row) (prices : List ℤ) (row : ℕ) (by old : ℤ) → ArePrices rows prices → ArePrices rows (repriced prices row by) → row < length rows → old ≡ get_or prices row old →
    FitsSigned w64 (to_z w64 (of_z w64 old) +ℤ to_z w64 (of_z w64 by))
price-fits rows prices row by old lawful again within is =
    let old_is : old ≡ price_at prices row = is ∙ get_or_default prices row old (pos 0) (omega (arith, within, lawful.one_per_row)) in
    fits_signed_from_abs w64 _ (omega (arith, ints, old_is, price-small rows prices row lawful within, change-small rows prices row by lawful again within))

-- ---- where one price changes

-- a reduced cost falls by what the row pays more for the column
reduced_cost-repriced : (program : Parts) (prices : List ℤ) (row j : ℕ) (by : ℤ) → row < length program.rows → row < length prices →
    reduced_cost program true (price_at (repriced prices row by)) j ≡ reduced_cost program true (price_at prices) j -ℤ by *ℤ entry program.rows row j
reduced_cost-repriced program prices row j by within there =
    let f : ℕ → ℤ = λ i. entry program.rows i j *ℤ price_at prices i in
    let g : ℕ → ℤ = λ i. entry program.rows i j *ℤ price_at (repriced prices row by) i in
    let new : price_at (repriced prices row by) row ≡ price_at prices row +ℤ by = get_or-set_same prices row (price_at prices row +ℤ by) (pos 0) there in
    let changed : whole_sum_below (length program.rows) g ≡ whole_sum_below (length program.rows) f +ℤ (g row -ℤ f row) =
    whole_sum_below-changed (length program.rows) row f g within (λ i below apart. ap (λ (z : ℤ). entry program.rows i j *ℤ z) (get_or-set_other prices row i (price_at prices row +ℤ by) (pos 0) apart)) in
    let more : g row ≡ f row +ℤ entry program.rows row j *ℤ by = ap (λ (z : ℤ). entry program.rows row j *ℤ z) new ∙ times_sum (entry program.rows row j) (price_at prices row) by in
    omega (arith, ints, changed, more, *ℤ_comm (entry program.rows row j) by, column_sum program.rows j (price_at prices), column_sum program.rows j (price_at (repriced prices row by)))

-- what the rows pay for their right sides rises by what the row pays more
sides-repriced : (rows : List Row) (prices : List ℤ) (row : ℕ) (by : ℤ) → row < length rows → row < length prices →
    whole_sum_below (length rows) (λ i. price_at (repriced prices row by) i *ℤ (row_of rows i).rhs) ≡ whole_sum_below (length rows) (λ i. price_at prices i *ℤ (row_of rows i).rhs) +ℤ by *ℤ (row_of rows row).rhs
sides-repriced rows prices row by within there =
    let new : price_at (repriced prices row by) row ≡ price_at prices row +ℤ by = get_or-set_same prices row (price_at prices row +ℤ by) (pos 0) there in
    let more : price_at (repriced prices row by) row *ℤ (row_of rows row).rhs ≡ price_at prices row *ℤ (row_of rows row).rhs +ℤ by *ℤ (row_of rows row).rhs =
    ap (λ (z : ℤ). z *ℤ (row_of rows row).rhs) new ∙ sum_times (price_at prices row) by (row_of rows row).rhs in
    let changed = whole_sum_below-changed (length rows) row (λ i. price_at prices i *ℤ (row_of rows i).rhs) (λ i. price_at (repriced prices row by) i *ℤ (row_of rows i).rhs) within
    (λ i below apart. ap (λ (z : ℤ). z *ℤ (row_of rows i).rhs) (get_or-set_other prices row i (price_at prices row +ℤ by) (pos 0) apart)) in
    omega (arith, ints, more, changed)

-- costs are the reduced costs of prices
abbrev pub AreReduced : Parts → List ℤ → (ℕ → ℤ) → Type 0
AreReduced program prices costs = (j : ℕ) → j < length program.columns → costs j ≡ reduced_cost program true (price_at prices) j

-- the value is what the rows pay for their right sides and what the columns come to
value-split : (program : Parts) (box : Ranges) (prices : List ℤ) (costs : ℕ → ℤ) → AreReduced program prices costs →
    value program true box (price_at prices) ≡ whole_sum_below (length program.rows) (λ i. price_at prices i *ℤ (row_of program.rows i).rhs) +ℤ least_of (length program.columns) box costs
unfolding value least_of
value-split program box prices costs are =
    ap (λ (z : ℤ). whole_sum_below (length program.rows) (λ i. price_at prices i *ℤ (row_of program.rows i).rhs) +ℤ z)
    (whole_sum_below-same (length program.columns) (λ j. column_value box (reduced_cost program true (price_at prices) j) j) (λ j. column_value box (costs j) j) (λ j below. ap (λ (z : ℤ). column_value box z j) (sym (are j below))))

-- costs that the row's terms are charged are the reduced costs of the changed prices
pub AreReduced-charged : (program : Parts) (prices : List ℤ) (costs : ℕ → ℤ) (row : ℕ) (by : ℤ) → AreReduced program prices costs → row < length program.rows → length prices ≡ length program.rows →
    AreReduced program (repriced prices row by) (charged costs by (terms_of program.rows row))
AreReduced-charged program prices costs row by are within long j below =
    ap (λ (z : ℤ). z -ℤ by *ℤ entry program.rows row j) (are j below) ∙ sym (reduced_cost-repriced program prices row j by within (omega (arith, within, long)))

-- the gain of a change: what the row pays more for its right side, and what its columns come to more
pub gain_of-charged : (program : Parts) (box : Ranges) (prices : List ℤ) (costs : ℕ → ℤ) (row : ℕ) (by : ℤ) → AreReduced program prices costs → row < length program.rows → length prices ≡ length program.rows →
    gain_of program box prices row by ≡ by *ℤ (row_of program.rows row).rhs +ℤ (least_of (length program.columns) box (charged costs by (terms_of program.rows row)) -ℤ least_of (length program.columns) box costs)
gain_of-charged program box prices costs row by are within long =
    omega (
      arith,
      ints,
      value-split program box prices costs are,
      value-split program box (repriced prices row by) (charged costs by (terms_of program.rows row)) (AreReduced-charged program prices costs row by are within long),
      sides-repriced program.rows prices row by within (omega (arith, within, long)),
    )

-- what columns rise by at most, and what the row pays for its right side, is what the value rises by at most
pub IsSlope-charged : (program : Parts) (box : Ranges) (prices : List ℤ) (costs : ℕ → ℤ) (row : ℕ) (by slope : ℤ) → AreReduced program prices costs → row < length program.rows → length prices ≡ length program.rows →
    IsSteepest (length program.columns) box costs (terms_of program.rows row) by slope → IsSlope program box prices row by ((row_of program.rows row).rhs +ℤ slope)
IsSlope-charged program box prices costs row by slope are within long steepest other =
    let rhs : ℤ = (row_of program.rows row).rhs in
    let parts : ((other -ℤ by) +ℤ by) *ℤ rhs ≡ (other -ℤ by) *ℤ rhs +ℤ by *ℤ rhs = sum_times (other -ℤ by) by rhs in
    let whole : ((other -ℤ by) +ℤ by) *ℤ rhs ≡ other *ℤ rhs = ap (λ (z : ℤ). z *ℤ rhs) (omega (arith, ints)) in
    omega (arith, ints, parts, whole, times_sum (other -ℤ by) rhs slope, steepest other, gain_of-charged program box prices costs row other are within long, gain_of-charged program box prices costs row by are within long)

-- the sum of the row where its columns stand, by what is kept of them
pub standing-charged : (program : Parts) (box : Ranges) (prices : List ℤ) (costs : ℕ → ℤ) (row : ℕ) (by : ℤ) (rises : Bool) → AreReduced program prices costs → row < length program.rows → length prices ≡ length program.rows →
    All (λ (term : ℕ × ℤ). term.0 < length program.columns) (terms_of program.rows row) →
    terms_sum (terms_of program.rows row) (stands_at box costs (terms_of program.rows row) by rises) ≡ terms_sum (terms_of program.rows row) (standing program box prices row by rises)
standing-charged program box prices costs row by rises are within long there =
    terms_sum-same (terms_of program.rows row) (length program.columns) (stands_at box costs (terms_of program.rows row) by rises) (standing program box prices row by rises) there
    (λ j below. ap (λ (z : ℤ). best_bound box z (goes_to_low (entry program.rows row j) rises) j) (AreReduced-charged program prices costs row by are within long j below))

-- changed prices are kept
pub IsKeptOf-repriced : (program : Parts) (kept : Kept) (row : ℕ) (by gain : ℤ) (reduced : List ℤ) → IsKeptOf program kept → row < length program.rows → ArePrices program.rows (repriced kept.prices row by) →
    length reduced ≡ length kept.reduced → ((j : ℕ) → j < length kept.reduced → reduced_at reduced j ≡ charged (reduced_at kept.reduced) by (terms_of program.rows row) j) →
    gain ≡ by *ℤ (row_of program.rows row).rhs +ℤ (least_of (length program.columns) kept.box (charged (reduced_at kept.reduced) by (terms_of program.rows row)) -ℤ least_of (length program.columns) kept.box (reduced_at kept.reduced)) →
    IsKeptOf program (record { box = kept.box; prices = repriced kept.prices row by; reduced = reduced; value = kept.value +ℤ gain })
IsKeptOf-repriced program kept row by gain reduced of within lawful long each is = record {
  columns = of.columns;
  lawful = lawful;
  one_per_column = long ∙ of.one_per_column;
  reduced = λ j below. each j (omega (arith, below, of.one_per_column)) ∙ AreReduced-charged program kept.prices (reduced_at kept.reduced) row by of.reduced within of.lawful.one_per_row j below;
  value = let gained = gain_of-charged program kept.box kept.prices (reduced_at kept.reduced) row by of.reduced within of.lawful.one_per_row in omega (arith, ints, gained, is, of.value);
}

-- the kept value is small
pub kept-small : (program : Parts) (kept : Kept) → IsProgram program → IsBox kept.box → IsKeptOf program kept → unsigned_abs kept.value < 2 ^ 120
kept-small program kept is box_is of = omega (arith, ints, of.value, value-small program kept.box kept.prices is box_is of.columns of.lawful)

-- ---- where one bound changes

-- the value over a box that is another in one column alone
value-changed : (program : Parts) (box other : Ranges) (prices : List ℤ) (cost : ℤ) (j : ℕ) → j < length program.columns → ((k : ℕ) → k ≢ j → low_of other k ≡ low_of box k) → ((k : ℕ) → k ≢ j → high_of other k ≡ high_of box k) →
    cost ≡ reduced_cost program true (price_at prices) j →
    value program true other (price_at prices) ≡ value program true box (price_at prices) +ℤ (column_value other cost j -ℤ column_value box cost j)
unfolding value
value-changed program box other prices cost j within lows highs is =
    let changed = whole_sum_below-changed (length program.columns) j (λ k. column_value box (reduced_cost program true (price_at prices) k) k) (λ k. column_value other (reduced_cost program true (price_at prices) k) k) within
    (λ k below apart. ap (λ (low : ℤ). int_min (reduced_cost program true (price_at prices) k *ℤ low) (reduced_cost program true (price_at prices) k *ℤ high_of other k)) (lows k apart)
    ∙ ap (λ (high : ℤ). int_min (reduced_cost program true (price_at prices) k *ℤ low_of box k) (reduced_cost program true (price_at prices) k *ℤ high)) (highs k apart)) in
    let before : column_value box cost j ≡ column_value box (reduced_cost program true (price_at prices) j) j = ap (λ (z : ℤ). column_value box z j) is in
    let after : column_value other cost j ≡ column_value other (reduced_cost program true (price_at prices) j) j = ap (λ (z : ℤ). column_value other z j) is in
    omega (arith, ints, changed, before, after)

-- so it changes by what this column comes to
IsKeptOf-changed : (program : Parts) (kept : Kept) (other : Ranges) (j : ℕ) (new : ℤ) → IsKeptOf program kept → j < length kept.box.lows → length other.lows ≡ length kept.box.lows →
    ((k : ℕ) → k ≢ j → low_of other k ≡ low_of kept.box k) → ((k : ℕ) → k ≢ j → high_of other k ≡ high_of kept.box k) →
    new ≡ kept.value +ℤ (column_value other (reduced_at kept.reduced j) j -ℤ column_value kept.box (reduced_at kept.reduced j) j) →
    IsKeptOf program (record { box = other; prices = kept.prices; reduced = kept.reduced; value = new })
IsKeptOf-changed program kept other j new of within long lows highs is =
    let there : j < length program.columns = omega (arith, within, of.columns) in
    record {
      columns = long ∙ of.columns;
      lawful = of.lawful;
      one_per_column = of.one_per_column;
      reduced = of.reduced;
      value = omega (arith, ints, is, of.value, value-changed program kept.box other kept.prices (reduced_at kept.reduced j) j there lows highs (of.reduced j there));
    }

-- another low of one column
pub IsKeptOf-low : (program : Parts) (kept : Kept) (other : Ranges) (j : ℕ) (low new : ℤ) → IsKeptOf program kept → j < length kept.box.lows → other ≡ with_low kept.box j low →
    new ≡ kept.value +ℤ (column_value other (reduced_at kept.reduced j) j -ℤ column_value kept.box (reduced_at kept.reduced j) j) →
    IsKeptOf program (record { box = other; prices = kept.prices; reduced = kept.reduced; value = new })
IsKeptOf-low program kept other j low new of within is value =
    IsKeptOf-changed program kept other j new of within (ap (λ (box : Ranges). length box.lows) is ∙ length-set kept.box.lows j low)
    (λ k apart. ap (λ (box : Ranges). low_of box k) is ∙ get_or-set_other kept.box.lows j k low (pos 0) apart) (λ k apart. ap (λ (box : Ranges). high_of box k) is) value

-- another high of one column
pub IsKeptOf-high : (program : Parts) (kept : Kept) (other : Ranges) (j : ℕ) (high new : ℤ) → IsKeptOf program kept → j < length kept.box.lows → other ≡ with_high kept.box j high →
    new ≡ kept.value +ℤ (column_value other (reduced_at kept.reduced j) j -ℤ column_value kept.box (reduced_at kept.reduced j) j) →
    IsKeptOf program (record { box = other; prices = kept.prices; reduced = kept.reduced; value = new })
IsKeptOf-high program kept other j high new of within is value =
    IsKeptOf-changed program kept other j new of within (ap (λ (box : Ranges). length box.lows) is)
    (λ k apart. ap (λ (box : Ranges). low_of box k) is) (λ k apart. ap (λ (box : Ranges). high_of box k) is ∙ get_or-set_other kept.box.highs j k high (pos 0) apart) value
