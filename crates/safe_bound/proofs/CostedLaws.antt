-- The least that columns come to within their bounds: of one column by the sign of its cost, how great it is, and the sum over all
-- columns where one changes.
use Rattle.std.proofs.Common.{◌≡◌, ◌≢◌, ℕ, zero, suc, ◌+◌, ◌*◌, ◌<◌, ◌≤◌, ◌^◌, Bool, true, false, length, set, ap, ◌∙◌, arith, get_or-set_other}
use Rattle.std.specs.Prelude.{ℤ, pos, negsuc, ◌+ℤ◌, ◌-ℤ◌, ◌*ℤ◌, ◌≤ℤ◌, ◌<ℤ◌, unsigned_abs, FitsSigned}
use Rattle.std.specs.Int.{int_min, w128, w64}
use Rattle.std.proofs.Math.Nat.{mul-le-mul_left}
use Rattle.std.proofs.lemmas.List.{length-set}
use Rattle.std.proofs.lemmas.Int.{clamps, fits_signed_mul, ints, to_z-of_z, unsigned_abs-mul}
use borrow.Author.Differences.{up, down}
use mir.Val.{of_z, to_z}
use Rattle.listed.specs.Below.{whole_sum_below}
use Rattle.listed.proofs.WholeSums.{whole_sum_below-only, whole_sum_below-sub}
use Rattle.sparse_program.specs.Box.{IsBox, IsRange, Ranges, high_of, low_of}
use Rattle.sparse_program.specs.Program.{IsProgram, Parts, col_of, no_col}
use Rattle.sparse_program.specs.Terms.{IsSmall}
use Rattle.sparse_program.specs.declared.limits.TheConstants.{MAX_NUMBER}
use Rattle.certificate_model.specs.Value.{column_value, cost_counted, scale}
use Rattle.safe_bound.specs.Costed.{Costed, IsCostedOf, least_costs}

-- ---- one column

-- a natural number of times a greater number
grows : (n : ℕ) (a b : ℤ) → a ≤ℤ b → (pos n *ℤ a) ≤ℤ (pos n *ℤ b)
grows n a b le =
    let more : n * (up a + down b) ≤ n * (up b + down a) = mul-le-mul_left n (omega (arith, ints)) in
    omega (arith, ints, more)

-- a negative number of times a greater number
falls : (n : ℕ) (a b : ℤ) → a ≤ℤ b → (negsuc n *ℤ b) ≤ℤ (negsuc n *ℤ a)
falls n a b le =
    let more : suc n * (up a + down b) ≤ suc n * (up b + down a) = mul-le-mul_left (suc n) (omega (arith, ints)) in
    omega (arith, ints, more)

-- what costs something comes to the least at the low
pub least_at_low : (cost low high : ℤ) → pos 0 ≤ℤ cost → low ≤ℤ high → cost *ℤ low ≡ int_min (cost *ℤ low) (cost *ℤ high)
least_at_low (pos n) low high above bounds = omega (arith, ints, clamps, grows n low high bounds)
least_at_low (negsuc n) low high above bounds = absurd (omega (arith, ints, above))

-- what saves something comes to the least at the high
pub least_at_high : (cost low high : ℤ) → cost <ℤ pos 0 → low ≤ℤ high → cost *ℤ high ≡ int_min (cost *ℤ low) (cost *ℤ high)
least_at_high (pos n) low high below bounds = absurd (omega (arith, ints, below))
least_at_high (negsuc n) low high below bounds = omega (arith, ints, clamps, falls n low high bounds)

-- a product with a small number
pub product-small : (a b : ℤ) → IsSmall b → unsigned_abs (a *ℤ b) ≤ unsigned_abs a * MAX_NUMBER
product-small a b small = omega (arith, unsigned_abs-mul a b, mul-le-mul_left (unsigned_abs a) small)

-- the less of two numbers is one of them
less_is_one : (x y : ℤ) (m : ℕ) → unsigned_abs x ≤ m → unsigned_abs y ≤ m → unsigned_abs (int_min x y) ≤ m
less_is_one x y m first second = omega (arith, ints, clamps)

-- a column comes to at most its cost times the greatest number
pub column_value-small : (box : Ranges) (cost : ℤ) (j : ℕ) → IsRange box j → unsigned_abs (column_value box cost j) ≤ unsigned_abs cost * MAX_NUMBER
column_value-small box cost j is =
    less_is_one (cost *ℤ low_of box j) (cost *ℤ high_of box j) (unsigned_abs cost * MAX_NUMBER) (product-small cost (low_of box j) is.low) (product-small cost (high_of box j) is.high)

-- a product that the code computes fits
pub product_fits : (cost value : ℤ) → unsigned_abs cost < 2 ^ 80 → IsSmall value → FitsSigned w128 (to_z w128 (of_z w128 cost) *ℤ to_z w128 (of_z w128 value))
product_fits cost value few small =
    let left : to_z w128 (of_z w128 cost) ≡ cost = omega (arith, ints) in
    let right : to_z w128 (of_z w128 value) ≡ value = omega (arith, ints) in
    rw (left, right) (fits_signed_mul w128 cost value (2 ^ 80) (2 ^ 20) (omega arith) (omega arith) (omega arith))

-- and is the product
pub shown_product : (cost value : ℤ) → unsigned_abs cost < 2 ^ 80 → IsSmall value → to_z w128 (of_z w128 (to_z w128 (of_z w128 cost) *ℤ to_z w128 (of_z w128 value))) ≡ cost *ℤ value
shown_product cost value few small =
    let left : to_z w128 (of_z w128 cost) ≡ cost = omega (arith, ints) in
    let right : to_z w128 (of_z w128 value) ≡ value = omega (arith, ints) in
    let fits : FitsSigned w128 (cost *ℤ value) = rw (left, right) at (product_fits cost value few small) in
    rw (left, right) (to_z-of_z w128 (cost *ℤ value) fits)

-- the same of a cost that is no greater than in a program, in 64 bits
pub small_product : (cost value : ℤ) → unsigned_abs cost ≤ 2 ^ 30 → IsSmall value → to_z w64 (of_z w64 (to_z w64 (of_z w64 cost) *ℤ to_z w64 (of_z w64 value))) ≡ cost *ℤ value
small_product cost value few small =
    let left : to_z w64 (of_z w64 cost) ≡ cost = omega (arith, ints) in
    let right : to_z w64 (of_z w64 value) ≡ value = omega (arith, ints) in
    let fits : FitsSigned w64 (cost *ℤ value) = fits_signed_mul w64 cost value (2 ^ 30) (2 ^ 20) (omega arith) (omega arith) (omega arith) in
    rw (left, right) (to_z-of_z w64 (cost *ℤ value) fits)

-- such a product is small
pub small_product-small : (cost value : ℤ) → unsigned_abs cost ≤ 2 ^ 30 → IsSmall value → unsigned_abs (cost *ℤ value) ≤ 2 ^ 50
small_product-small cost value few small = omega (arith, few, product-small cost value small)

-- ---- all columns

-- terms that are at most a number have a sum that is at most their count times that number
pub whole_sum_below-small : (n m : ℕ) (f : ℕ → ℤ) → ((k : ℕ) → k < n → unsigned_abs (f k) ≤ m) → unsigned_abs (whole_sum_below n f) ≤ n * m
unfolding whole_sum_below
whole_sum_below-small zero m f small = omega (arith, ints)
whole_sum_below-small (suc n) m f small =
    let before : unsigned_abs (whole_sum_below n f) ≤ n * m = whole_sum_below-small n m f (λ k h. small k (omega arith)) in
    let here : unsigned_abs (f n) ≤ m = small n (omega arith) in
    omega (arith, ints, before, here)

-- where one term changes, the sum changes by it
pub whole_sum_below-changed : (n j : ℕ) (f g : ℕ → ℤ) → j < n → ((k : ℕ) → k < n → k ≢ j → g k ≡ f k) → whole_sum_below n g ≡ whole_sum_below n f +ℤ (g j -ℤ f j)
whole_sum_below-changed n j f g within same =
    let only : whole_sum_below n (λ k. g k -ℤ f k) ≡ g j -ℤ f j =
    whole_sum_below-only n j (λ k. g k -ℤ f k) within (λ k below other. let is : g k ≡ f k = same k below other in omega (arith, ints, is)) in
    omega (arith, ints, only, whole_sum_below-sub n g f)

-- ---- the costs of all columns

-- what one unit of a column costs
pub cost_counted-small : (program : Parts) (with_cost : Bool) (j : ℕ) → IsProgram program → j < length program.columns → unsigned_abs (cost_counted program with_cost j) ≤ 2 ^ 30
cost_counted-small program true j is within =
    let small : IsSmall (col_of program.columns j).cost = (is.built.each_column j no_col within).cost in
    omega (arith, product-small (pos scale) (col_of program.columns j).cost small)
cost_counted-small program false j is within = omega arith

-- what the cost of a column comes to
pub column_cost-small : (program : Parts) (with_cost : Bool) (box : Ranges) (j : ℕ) → IsProgram program → IsBox box → j < length box.lows → length box.lows ≡ length program.columns →
    unsigned_abs (column_value box (cost_counted program with_cost j) j) ≤ 2 ^ 50
column_cost-small program with_cost box j is box_is within columns =
    let few : unsigned_abs (cost_counted program with_cost j) ≤ 2 ^ 30 = cost_counted-small program with_cost j is (omega arith) in
    omega (arith, few, column_value-small box (cost_counted program with_cost j) j (box_is.each j within))

-- the first columns
pub first_costs-small : (program : Parts) (with_cost : Bool) (box : Ranges) (n : ℕ) → IsProgram program → IsBox box → n ≤ length box.lows → length box.lows ≡ length program.columns →
    unsigned_abs (whole_sum_below n (λ j. column_value box (cost_counted program with_cost j) j)) ≤ 2 ^ 70
first_costs-small program with_cost box n is box_is few columns =
    let sum : unsigned_abs (whole_sum_below n (λ j. column_value box (cost_counted program with_cost j) j)) ≤ n * 2 ^ 50 =
    whole_sum_below-small n (2 ^ 50) (λ j. column_value box (cost_counted program with_cost j) j) (λ j below. column_cost-small program with_cost box j is box_is (omega arith) columns) in
    let many : n ≤ 2 ^ 20 = omega (arith, box_is.few) in
    omega (arith, sum, many)

-- a box where one column has another low
abbrev pub with_low : Ranges → ℕ → ℤ → Ranges
with_low box j low = record box { lows = set box.lows j low }

-- a box where one column has another high
abbrev pub with_high : Ranges → ℕ → ℤ → Ranges
with_high box j high = record box { highs = set box.highs j high }

-- the costs in a box that is another in one column alone
least_costs-changed : (program : Parts) (box other : Ranges) (j : ℕ) → j < length program.columns → ((k : ℕ) → k ≢ j → low_of other k ≡ low_of box k) → ((k : ℕ) → k ≢ j → high_of other k ≡ high_of box k) →
    least_costs program other ≡ least_costs program box +ℤ (column_value other (cost_counted program true j) j -ℤ column_value box (cost_counted program true j) j)
least_costs-changed program box other j within lows highs =
    whole_sum_below-changed (length program.columns) j (λ k. column_value box (cost_counted program true k) k) (λ k. column_value other (cost_counted program true k) k) within
    (λ k below apart. ap (λ (low : ℤ). int_min (cost_counted program true k *ℤ low) (cost_counted program true k *ℤ high_of other k)) (lows k apart)
    ∙ ap (λ (high : ℤ). int_min (cost_counted program true k *ℤ low_of box k) (cost_counted program true k *ℤ high)) (highs k apart))

-- so the sum changes by the cost of this column
IsCostedOf-changed : (program : Parts) (costed : Costed) (other : Ranges) (j : ℕ) (before after costs : ℤ) → IsCostedOf program costed → j < length costed.box.lows → length other.lows ≡ length costed.box.lows →
    ((k : ℕ) → k ≢ j → low_of other k ≡ low_of costed.box k) → ((k : ℕ) → k ≢ j → high_of other k ≡ high_of costed.box k) →
    before ≡ column_value costed.box (cost_counted program true j) j → after ≡ column_value other (cost_counted program true j) j →
    costs ≡ costed.costs +ℤ (after -ℤ before) → IsCostedOf program (record { box = other; costs = costs })
IsCostedOf-changed program costed other j before after costs is within long lows highs was now sum = record {
  columns = long ∙ is.columns;
  costs = let changed = least_costs-changed program costed.box other j (omega (arith, is.columns)) lows highs in omega (arith, ints, changed, is.costs, was, now, sum);
}

-- another low of one column
pub IsCostedOf-low : (program : Parts) (costed : Costed) (other : Ranges) (j : ℕ) (low before after costs : ℤ) → IsCostedOf program costed → j < length costed.box.lows →
    other ≡ with_low costed.box j low → before ≡ column_value costed.box (cost_counted program true j) j → after ≡ column_value other (cost_counted program true j) j →
    costs ≡ costed.costs +ℤ (after -ℤ before) → IsCostedOf program (record { box = other; costs = costs })
IsCostedOf-low program costed other j low before after costs is within new was now sum =
    IsCostedOf-changed program costed other j before after costs is within (ap (λ (box : Ranges). length box.lows) new ∙ length-set costed.box.lows j low)
    (λ k apart. ap (λ (box : Ranges). low_of box k) new ∙ get_or-set_other costed.box.lows j k low (pos 0) apart) (λ k apart. ap (λ (box : Ranges). high_of box k) new) was now sum

-- another high of one column
pub IsCostedOf-high : (program : Parts) (costed : Costed) (other : Ranges) (j : ℕ) (high before after costs : ℤ) → IsCostedOf program costed → j < length costed.box.lows →
    other ≡ with_high costed.box j high → before ≡ column_value costed.box (cost_counted program true j) j → after ≡ column_value other (cost_counted program true j) j →
    costs ≡ costed.costs +ℤ (after -ℤ before) → IsCostedOf program (record { box = other; costs = costs })
IsCostedOf-high program costed other j high before after costs is within new was now sum =
    IsCostedOf-changed program costed other j before after costs is within (ap (λ (box : Ranges). length box.lows) new)
    (λ k apart. ap (λ (box : Ranges). low_of box k) new) (λ k apart. ap (λ (box : Ranges). high_of box k) new ∙ get_or-set_other costed.box.highs j k high (pos 0) apart) was now sum
