-- Weak duality with bounded variables: the value of prices over a box is below what each point in the box costs.
use Rattle.std.proofs.Common.{◌≡◌, ◌⊎◌, inl, inr, ℕ, suc, ◌+◌, ◌*◌, ◌<◌, ◌≤◌, Bool, true, false, List, [], ◌∷◌, length, All, cond, ap, ◌∙◌, sym, arith}
use Rattle.std.specs.Prelude.{ℤ, pos, negsuc, ◌+ℤ◌, ◌-ℤ◌, ◌*ℤ◌, ◌≤ℤ◌}
use Rattle.std.specs.Int.{int_min}
use Rattle.std.proofs.Math.Nat.{mul-le-mul_left}
use Rattle.std.proofs.Math.IntN.{*ℤ_comm, zero-*ℤ}
use Rattle.std.proofs.lemmas.Bool.{cases_Bool, eqb-true}
use Rattle.std.proofs.lemmas.Int.{clamps, ints}
use Rattle.std.proofs.lemmas.List.Elements.{All-head, All-tail}
use borrow.Author.Differences.{up, down}
use Rattle.listed.specs.Below.{whole_sum_below}
use Rattle.listed.proofs.WholeSums.{whole_sum_below-le, whole_sum_below-mul, whole_sum_below-none, whole_sum_below-same, whole_sum_below-sub, whole_sum_below-swap}
use Rattle.sparse_program.specs.Box.{Ranges, high_of, low_of}
use Rattle.sparse_program.specs.Program.{Holds, Parts, Reaches, col_of, column_of, entry, row_of, terms_of}
use Rattle.sparse_program.specs.Terms.{coefficient, names, terms_sum}
use Rattle.sparse_program.specs.declared.row.Row.{Row}
use Rattle.sparse_program.proofs.MatrixLaws.{column_sum}
use Rattle.sparse_program.proofs.TermLaws.{sum_times, terms_sum-entries, times_swap}
use Rattle.program_model.proofs.Products.{times_times}
use Rattle.certificate_model.specs.Value.{AreLawful, IsInside, IsSigned, column_value, cost_counted, reduced_cost, scale, value, value_of_pairs}

-- ---- products

-- a natural number of times a greater number
grows : (n : ℕ) (a b : ℤ) → a ≤ℤ b → (pos n *ℤ a) ≤ℤ (pos n *ℤ b)
grows n a b le =
    let more : n * (up a + down b) ≤ n * (up b + down a) = mul-le-mul_left n (omega (arith, ints)) in
    omega (arith, ints, more)

-- a negative number of times a greater number
falls : (n : ℕ) (a b : ℤ) → a ≤ℤ b → (negsuc n *ℤ b) ≤ℤ (negsuc n *ℤ a)
falls n a b le =
    let more : suc n * (up a + down b) ≤ suc n * (up b + down a) = mul-le-mul_left (suc n) (omega (arith, ints)) in
    omega (arith, ints, more)

-- between its bounds a column comes to no less than at the better of them
pub least_within : (cost low high x : ℤ) → low ≤ℤ x → x ≤ℤ high → int_min (cost *ℤ low) (cost *ℤ high) ≤ℤ (cost *ℤ x)
least_within (pos n) low high x above below = omega (arith, ints, clamps, grows n low x above)
least_within (negsuc n) low high x above below = omega (arith, ints, clamps, falls n x high below)

-- ---- rows

-- an allowed price on a row that holds pays for the right side at most what the row comes to
paid : (equal : Bool) (rhs sum price : ℤ) → (equal ≡ true) ⊎ (pos 0 ≤ℤ price) → Reaches equal rhs sum → (price *ℤ rhs) ≤ℤ (price *ℤ sum)
paid true rhs sum price signed reaches = let same : price *ℤ sum ≡ price *ℤ rhs = ap (λ (z : ℤ). price *ℤ z) reaches in omega (arith, ints, same)
paid false rhs sum (pos n) signed reaches = grows n rhs sum reaches
paid false rhs sum (negsuc n) signed reaches = absurd (elim signed [ inl is ↦ (cc) | inr above ↦ omega (arith, ints, above) ])

-- allowed prices on one row are allowed together
signed_sum : (row : Row) (a b : ℤ) → IsSigned row a → IsSigned row b → IsSigned row (a +ℤ b)
signed_sum row a b (inl equal) second = inl equal
signed_sum row a b (inr above) (inl equal) = inl equal
signed_sum row a b (inr above) (inr too) = inr (omega (arith, ints, above, too))

-- a price of 0 is allowed on each row
signed_none : (row : Row) → IsSigned row (pos 0)
signed_none row = inr (omega (arith, ints))

-- each row has an allowed price, be it named or not
pub signed_each : (rows : List Row) (pairs : List (ℕ × ℤ)) (i : ℕ) → All (λ (pair : ℕ × ℤ). IsSigned (row_of rows pair.0) pair.1) pairs → IsSigned (row_of rows i) (coefficient pairs i)
signed_each rows [] i signed = signed_none (row_of rows i)
signed_each rows (pair ∷ pairs) i signed =
    let later : IsSigned (row_of rows i) (coefficient pairs i) = signed_each rows pairs i (All-tail (λ (other : ℕ × ℤ). IsSigned (row_of rows other.0) other.1) pair pairs signed) in
    let first : IsSigned (row_of rows pair.0) pair.1 = All-head (λ (other : ℕ × ℤ). IsSigned (row_of rows other.0) other.1) pair pairs signed in
    signed_sum (row_of rows i) (cond (names i pair) pair.1 (pos 0)) (coefficient pairs i)
    (elim (cases_Bool (names i pair)) [
      | inl named ↦ rw named (rw (eqb-true pair.0 i named) at first)
      | inr other ↦ rw other (signed_none (row_of rows i))
    ])
    later

-- ---- one sum over rows, one over columns

-- the terms of each row name columns below a count
abbrev pub TermsThere : ℕ → List Row → Type 0
TermsThere columns rows = (i : ℕ) → i < length rows → All (λ (term : ℕ × ℤ). term.0 < columns) (terms_of rows i)

-- prices times the sums of the rows are values times the sums of the columns
pub sums_meet : (columns : ℕ) (rows : List Row) (p x : ℕ → ℤ) → TermsThere columns rows →
    whole_sum_below (length rows) (λ i. p i *ℤ terms_sum (terms_of rows i) x) ≡ whole_sum_below columns (λ j. x j *ℤ terms_sum (column_of rows j) p)
sums_meet columns rows p x there =
    whole_sum_below-same (length rows) (λ i. p i *ℤ terms_sum (terms_of rows i) x) (λ i. whole_sum_below columns (λ j. p i *ℤ (entry rows i j *ℤ x j)))
    (λ i below. ap (λ (z : ℤ). p i *ℤ z) (terms_sum-entries (terms_of rows i) columns x (there i below)) ∙ sym (whole_sum_below-mul columns (p i) (λ j. entry rows i j *ℤ x j)))
    ∙ whole_sum_below-swap (length rows) columns (λ i j. p i *ℤ (entry rows i j *ℤ x j))
    ∙ whole_sum_below-same columns (λ j. whole_sum_below (length rows) (λ i. p i *ℤ (entry rows i j *ℤ x j))) (λ j. x j *ℤ terms_sum (column_of rows j) p)
    (λ j below.
    whole_sum_below-same (length rows) (λ i. p i *ℤ (entry rows i j *ℤ x j)) (λ i. x j *ℤ (entry rows i j *ℤ p i)) (λ i within. times_swap (p i) (entry rows i j) (x j))
    ∙ whole_sum_below-mul (length rows) (x j) (λ i. entry rows i j *ℤ p i) ∙ ap (λ (z : ℤ). x j *ℤ z) (sym (column_sum rows j p)))

-- a difference times a value
times_less : (c s x : ℤ) → (c -ℤ s) *ℤ x ≡ c *ℤ x -ℤ x *ℤ s
times_less c s x =
    let whole : ((c -ℤ s) +ℤ s) *ℤ x ≡ (c -ℤ s) *ℤ x +ℤ s *ℤ x = sum_times (c -ℤ s) s x in
    let back : ((c -ℤ s) +ℤ s) *ℤ x ≡ c *ℤ x = ap (λ (z : ℤ). z *ℤ x) (omega (arith, ints)) in
    let turned : s *ℤ x ≡ x *ℤ s = *ℤ_comm s x in
    omega (arith, ints, whole, back, turned)

-- ---- weak duality

-- a point in the box that meets all rows costs at least the value of allowed prices
pub value-below : (program : Parts) (with_cost : Bool) (box : Ranges) (p x : ℕ → ℤ) → TermsThere (length program.columns) program.rows →
    ((i : ℕ) → i < length program.rows → IsSigned (row_of program.rows i) (p i)) → IsInside (length program.columns) box x →
    ((i : ℕ) → i < length program.rows → Holds (row_of program.rows i) x) →
    value program with_cost box p ≤ℤ whole_sum_below (length program.columns) (λ j. cost_counted program with_cost j *ℤ x j)
unfolding value
value-below program with_cost box p x there signed inside holds =
    let paid_sum : ℕ → ℤ = λ i. p i *ℤ terms_sum (terms_of program.rows i) x in
    let back : ℕ → ℤ = λ j. x j *ℤ terms_sum (column_of program.rows j) p in
    let costs : ℕ → ℤ = λ j. cost_counted program with_cost j *ℤ x j in
    let rows : whole_sum_below (length program.rows) (λ i. p i *ℤ (row_of program.rows i).rhs) ≤ℤ whole_sum_below (length program.rows) paid_sum =
    whole_sum_below-le (length program.rows) (λ i. p i *ℤ (row_of program.rows i).rhs) paid_sum
    (λ i below. paid (row_of program.rows i).equal (row_of program.rows i).rhs (terms_sum (terms_of program.rows i) x) (p i) (signed i below) (holds i below)) in
    let meet : whole_sum_below (length program.rows) paid_sum ≡ whole_sum_below (length program.columns) back = sums_meet (length program.columns) program.rows p x there in
    let columns : whole_sum_below (length program.columns) (λ j. column_value box (reduced_cost program with_cost p j) j) ≤ℤ whole_sum_below (length program.columns) (λ j. reduced_cost program with_cost p j *ℤ x j) =
    whole_sum_below-le (length program.columns) (λ j. column_value box (reduced_cost program with_cost p j) j) (λ j. reduced_cost program with_cost p j *ℤ x j)
    (λ j below. least_within (reduced_cost program with_cost p j) (low_of box j) (high_of box j) (x j) (inside j below).0 (inside j below).1) in
    let less : whole_sum_below (length program.columns) (λ j. reduced_cost program with_cost p j *ℤ x j) ≡ whole_sum_below (length program.columns) costs -ℤ whole_sum_below (length program.columns) back =
    whole_sum_below-same (length program.columns) (λ j. reduced_cost program with_cost p j *ℤ x j) (λ j. costs j -ℤ back j)
    (λ j below. times_less (cost_counted program with_cost j) (terms_sum (column_of program.rows j) p) (x j))
    ∙ whole_sum_below-sub (length program.columns) costs back in
    omega (arith, ints, rows, meet, columns, less)

-- the same of pairs, with costs
pub value_of_pairs-below : (program : Parts) (box : Ranges) (pairs : List (ℕ × ℤ)) (x : ℕ → ℤ) → TermsThere (length program.columns) program.rows → AreLawful program.rows pairs →
    IsInside (length program.columns) box x → ((i : ℕ) → i < length program.rows → Holds (row_of program.rows i) x) →
    value_of_pairs program true box pairs ≤ℤ (pos scale *ℤ whole_sum_below (length program.columns) (λ j. (col_of program.columns j).cost *ℤ x j))
value_of_pairs-below program box pairs x there lawful inside holds =
    let below : value_of_pairs program true box pairs ≤ℤ whole_sum_below (length program.columns) (λ j. (pos scale *ℤ (col_of program.columns j).cost) *ℤ x j) =
    value-below program true box (coefficient pairs) x there (λ i within. signed_each program.rows pairs i lawful.signed) inside holds in
    let scaled : whole_sum_below (length program.columns) (λ j. (pos scale *ℤ (col_of program.columns j).cost) *ℤ x j) ≡ pos scale *ℤ whole_sum_below (length program.columns) (λ j. (col_of program.columns j).cost *ℤ x j) =
    whole_sum_below-same (length program.columns) (λ j. (pos scale *ℤ (col_of program.columns j).cost) *ℤ x j) (λ j. pos scale *ℤ ((col_of program.columns j).cost *ℤ x j))
    (λ j within. times_times (pos scale) (col_of program.columns j).cost (x j))
    ∙ whole_sum_below-mul (length program.columns) (pos scale) (λ j. (col_of program.columns j).cost *ℤ x j) in
    rw scaled at below

-- and without them
pub value_of_pairs-empty : (program : Parts) (box : Ranges) (pairs : List (ℕ × ℤ)) (x : ℕ → ℤ) → TermsThere (length program.columns) program.rows → AreLawful program.rows pairs →
    IsInside (length program.columns) box x → ((i : ℕ) → i < length program.rows → Holds (row_of program.rows i) x) → value_of_pairs program false box pairs ≤ℤ pos 0
value_of_pairs-empty program box pairs x there lawful inside holds =
    let below : value_of_pairs program false box pairs ≤ℤ whole_sum_below (length program.columns) (λ j. pos 0 *ℤ x j) =
    value-below program false box (coefficient pairs) x there (λ i within. signed_each program.rows pairs i lawful.signed) inside holds in
    let none : whole_sum_below (length program.columns) (λ j. pos 0 *ℤ x j) ≡ pos 0 = whole_sum_below-none (length program.columns) (λ j. pos 0 *ℤ x j) (λ j within. zero-*ℤ (x j)) in
    rw none at below
