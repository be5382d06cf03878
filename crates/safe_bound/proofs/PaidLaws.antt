-- What the rows of a few pairs pay: one term or one pair more, how great the sums are, which columns are left out, and what all columns
-- come to less what is paid for them.
use Rattle.std.proofs.Common.{◌≡◌, ◌≢◌, inl, inr, ℕ, ◌+◌, ◌*◌, ◌<◌, ◌≤◌, ◌^◌, Bool, true, false, cond, List, [], ◌∷◌, ◌++◌, length, get_or, set, take, drop, drop-cons, All, refl, ap, ◌∙◌, sym, arith, add-one, get_or-set_other, get_or-set_same}
use Rattle.std.specs.Prelude.{ℤ, pos, ◌+ℤ◌, ◌-ℤ◌, ◌*ℤ◌, unsigned_abs, FitsSigned}
use Rattle.std.specs.Int.{int_min, w64}
use Rattle.std.proofs.Math.IntN.{*ℤ_comm, zero-*ℤ}
use Rattle.std.proofs.Math.Nat.{mul-le-mul}
use Rattle.std.proofs.lemmas.Bool.{cases_eq, cases_lt, eq-eqb, ne_eqb}
use Rattle.std.proofs.lemmas.Int.{fits_signed_mul, ints, to_z-of_z, unsigned_abs-mul}
use Rattle.std.proofs.lemmas.List.{get_or-take, get_or_past, length-set, length-take, take_more}
use Rattle.std.proofs.lemmas.List.Elements.{All-cons, All-head, All-tail, All-take}
use mir.Val.{of_z, to_z}
use Rattle.listed.specs.Below.{whole_sum_below}
use Rattle.listed.proofs.WholeSums.{times_sum, whole_sum_below-none, whole_sum_below-same}
use Rattle.sparse_program.specs.Box.{IsBox, Ranges, high_of, low_of}
use Rattle.sparse_program.specs.Program.{IsProgram, IsRow, Parts, column_of, entry, no_row, row_of, terms_of}
use Rattle.sparse_program.specs.Terms.{AreTerms, IsSmall, Rises, coefficient, names, terms_sum}
use Rattle.sparse_program.specs.declared.limits.TheConstants.{MAX_NUMBER}
use Rattle.sparse_program.specs.declared.row.Row.{Row}
use Rattle.sparse_program.proofs.MatrixLaws.{column_sum}
use Rattle.sparse_program.proofs.TermLaws.{Rises-head, Rises-tail, coefficient-none, terms_sum-entries}
use Rattle.certificate_model.specs.Value.{AreLawful, column_value, cost_counted, most_price, reduced_cost, value, value_of_pairs}
use Rattle.safe_bound.specs.Costed.{least_costs}
use Rattle.safe_bound.specs.inner.Paid.{IsLight, IsUnnamed, IsUnpaid, least_left, paid_at, paid_for, paid_for_sides}
use Rattle.safe_bound.proofs.CostedLaws.{column_value-small, cost_counted-small, whole_sum_below-changed, whole_sum_below-small}

-- ---- terms that rise

-- the first of terms that rise
pub Rises-take : (k : ℕ) (terms : List (ℕ × ℤ)) → Rises terms → Rises (take k terms)
Rises-take k terms rises i j d before within =
    let long : length (take k terms) ≤ k = grind (arith, length-take {A = ℕ × ℤ}) in
    let fewer : length (take k terms) ≤ length terms = grind (arith, length-take {A = ℕ × ℤ}) in
    rw (get_or-take k terms i d (omega arith), get_or-take k terms j d (omega arith)) (rises i j d before (omega arith))

-- terms that rise have no greater coefficient than each of them
pub coefficient-small : (terms : List (ℕ × ℤ)) (m j : ℕ) → Rises terms → All (λ (term : ℕ × ℤ). unsigned_abs term.1 ≤ m) terms → unsigned_abs (coefficient terms j) ≤ m
coefficient-small [] m j rises small = omega (arith, ints)
coefficient-small (t ∷ terms) m j rises small =
    let first : unsigned_abs t.1 ≤ m = All-head (λ (term : ℕ × ℤ). unsigned_abs term.1 ≤ m) t terms small in
    elim (cases_eq t.0 j) [
      | inl e ↦
          let here : cond (names j t) t.1 (pos 0) ≡ t.1 = ap (λ (b : Bool). cond b t.1 (pos 0)) (eq-eqb t.0 j e) in
          let rest : coefficient terms j ≡ pos 0 = coefficient-none terms j (λ k d below same. let up : t.0 < (get_or terms k d).0 = Rises-head t terms rises k d below in absurd (omega arith)) in
          omega (arith, ints, first, here, rest)
      | inr ne ↦
          let here : cond (names j t) t.1 (pos 0) ≡ pos 0 = ap (λ (b : Bool). cond b t.1 (pos 0)) (ne_eqb t.0 j ne) in
          let rest : unsigned_abs (coefficient terms j) ≤ m = coefficient-small terms m j (Rises-tail t terms rises) (All-tail (λ (term : ℕ × ℤ). unsigned_abs term.1 ≤ m) t terms small) in
          omega (arith, ints, here, rest)
    ]

-- the coefficient of terms joined
coefficient-append : (xs ys : List (ℕ × ℤ)) (j : ℕ) → coefficient (xs ++ ys) j ≡ coefficient xs j +ℤ coefficient ys j
coefficient-append [] ys j = omega (arith, ints)
coefficient-append (t ∷ xs) ys j = let rest : coefficient (xs ++ ys) j ≡ coefficient xs j +ℤ coefficient ys j = coefficient-append xs ys j in omega (arith, ints, rest)

-- one term more, at its own number
pub coefficient-more_same : (terms : List (ℕ × ℤ)) (k : ℕ) (d : ℕ × ℤ) → k < length terms → coefficient (take (k + 1) terms) (get_or terms k d).0 ≡ coefficient (take k terms) (get_or terms k d).0 +ℤ (get_or terms k d).1
coefficient-more_same terms k d within =
    let t : ℕ × ℤ = get_or terms k d in
    let here : cond (names t.0 t) t.1 (pos 0) ≡ t.1 = ap (λ (b : Bool). cond b t.1 (pos 0)) (eq-eqb t.0 t.0 refl) in
    let more : coefficient (take (k + 1) terms) t.0 ≡ coefficient (take k terms) t.0 +ℤ coefficient (t ∷ []) t.0 = ap (λ (xs : List (ℕ × ℤ)). coefficient xs t.0) (take_more terms k d within) ∙ coefficient-append (take k terms) (t ∷ []) t.0 in
    omega (arith, ints, here, more)

-- and at another
pub coefficient-more_other : (terms : List (ℕ × ℤ)) (k j : ℕ) (d : ℕ × ℤ) → k < length terms → j ≢ (get_or terms k d).0 → coefficient (take (k + 1) terms) j ≡ coefficient (take k terms) j
coefficient-more_other terms k j d within apart =
    let t : ℕ × ℤ = get_or terms k d in
    let here : cond (names j t) t.1 (pos 0) ≡ pos 0 = ap (λ (b : Bool). cond b t.1 (pos 0)) (ne_eqb t.0 j (λ same. apart (sym same))) in
    let more : coefficient (take (k + 1) terms) j ≡ coefficient (take k terms) j +ℤ coefficient (t ∷ []) j = ap (λ (xs : List (ℕ × ℤ)). coefficient xs j) (take_more terms k d within) ∙ coefficient-append (take k terms) (t ∷ []) j in
    omega (arith, ints, here, more)

-- a product of small numbers
product_within : (a b : ℤ) (m n : ℕ) → unsigned_abs a ≤ m → unsigned_abs b ≤ n → unsigned_abs (a *ℤ b) ≤ m * n
product_within a b m n first second = omega (arith, unsigned_abs-mul a b, mul-le-mul first second)

-- a price times a small number fits
pub payment_fits : (price number : ℤ) → unsigned_abs price ≤ most_price → IsSmall number → FitsSigned w64 (to_z w64 (of_z w64 price) *ℤ to_z w64 (of_z w64 number))
payment_fits price number few small =
    let left : to_z w64 (of_z w64 price) ≡ price = omega (arith, ints) in
    let right : to_z w64 (of_z w64 number) ≡ number = omega (arith, ints) in
    rw (left, right) (fits_signed_mul w64 price number (2 ^ 40) (2 ^ 20) few small (omega arith))

-- and is their product
pub shown_payment : (price number : ℤ) → unsigned_abs price ≤ most_price → IsSmall number → to_z w64 (of_z w64 (to_z w64 (of_z w64 price) *ℤ to_z w64 (of_z w64 number))) ≡ price *ℤ number
shown_payment price number few small =
    let left : to_z w64 (of_z w64 price) ≡ price = omega (arith, ints) in
    let right : to_z w64 (of_z w64 number) ≡ number = omega (arith, ints) in
    let fits : FitsSigned w64 (price *ℤ number) = rw (left, right) at (payment_fits price number few small) in
    rw (left, right) (to_z-of_z w64 (price *ℤ number) fits)

-- which is not great
pub payment-small : (price number : ℤ) → unsigned_abs price ≤ most_price → IsSmall number → unsigned_abs (price *ℤ number) ≤ 2 ^ 60
payment-small price number few small = omega (arith, product_within price number (2 ^ 40) (2 ^ 20) few small)

-- ---- what pairs pay

-- what a row has paid with one term more
pub paid-one_more : (terms : List (ℕ × ℤ)) (k : ℕ) (d : ℕ × ℤ) (price new : ℤ) (before now : List ℤ) → k < length terms → (get_or terms k d).0 < length now →
    ((j : ℕ) → j < length now → paid_at now j ≡ paid_at before j +ℤ price *ℤ coefficient (take k terms) j) → new ≡ paid_at now (get_or terms k d).0 +ℤ price *ℤ (get_or terms k d).1 →
    (j : ℕ) → j < length now → paid_at (set now (get_or terms k d).0 new) j ≡ paid_at before j +ℤ price *ℤ coefficient (take (k + 1) terms) j
paid-one_more terms k d price new before now within there so_far is j below =
    elim (cases_eq j (get_or terms k d).0) [
      | inl e ↦
          let here : paid_at (set now (get_or terms k d).0 new) (get_or terms k d).0 ≡ new = get_or-set_same now (get_or terms k d).0 new (pos 0) there in
          let sum : price *ℤ coefficient (take (k + 1) terms) (get_or terms k d).0 ≡ price *ℤ coefficient (take k terms) (get_or terms k d).0 +ℤ price *ℤ (get_or terms k d).1 =
          ap (λ (z : ℤ). price *ℤ z) (coefficient-more_same terms k d within) ∙ times_sum price (coefficient (take k terms) (get_or terms k d).0) (get_or terms k d).1 in
          let old = so_far (get_or terms k d).0 there in
          rw e (omega (arith, ints, here, sum, old, is))
      | inr ne ↦ get_or-set_other now (get_or terms k d).0 j new (pos 0) ne ∙ so_far j below ∙ ap (λ (z : ℤ). paid_at before j +ℤ price *ℤ z) (sym (coefficient-more_other terms k j d within ne))
    ]

-- which is not much
pub paid-not_much : (columns : ℕ) (terms : List (ℕ × ℤ)) (k : ℕ) (price : ℤ) (before now : List ℤ) (j : ℕ) → AreTerms columns terms → unsigned_abs price ≤ most_price → IsLight before → j < length before →
    paid_at now j ≡ paid_at before j +ℤ price *ℤ coefficient (take k terms) j → unsigned_abs (paid_at now j) ≤ 2 ^ 79 + 2 ^ 60
paid-not_much columns terms k price before now j are few light below is =
    let small : IsSmall (coefficient (take k terms) j) = coefficient-small (take k terms) MAX_NUMBER j (Rises-take k terms are.rises) (All-take (λ (term : ℕ × ℤ). IsSmall term.1) k terms are.small) in
    omega (arith, ints, is, light.each j below, payment-small price (coefficient (take k terms) j) few small)

-- a sum over prices that rise below the most rows, each times a small number
prices_sum-small : (rows : List Row) (pairs : List (ℕ × ℤ)) (x : ℕ → ℤ) → length rows ≤ 400000 → AreLawful rows pairs → ((i : ℕ) → i < length rows → unsigned_abs (x i) ≤ 2 ^ 20) →
    (k : ℕ) → unsigned_abs (terms_sum (take k pairs) x) ≤ 2 ^ 79
prices_sum-small rows pairs x few lawful small k =
    let entries : terms_sum (take k pairs) x ≡ whole_sum_below (length rows) (λ i. coefficient (take k pairs) i *ℤ x i) =
    terms_sum-entries (take k pairs) (length rows) x (All-take (λ (pair : ℕ × ℤ). pair.0 < length rows) k pairs lawful.there) in
    let sum : unsigned_abs (whole_sum_below (length rows) (λ i. coefficient (take k pairs) i *ℤ x i)) ≤ length rows * (2 ^ 40 * 2 ^ 20) =
    whole_sum_below-small (length rows) (2 ^ 40 * 2 ^ 20) (λ i. coefficient (take k pairs) i *ℤ x i)
    (λ i below. product_within (coefficient (take k pairs) i) (x i) (2 ^ 40) (2 ^ 20)
    (coefficient-small (take k pairs) (2 ^ 40) i (Rises-take k pairs lawful.rises) (All-take (λ (pair : ℕ × ℤ). unsigned_abs pair.1 ≤ 2 ^ 40) k pairs lawful.within)) (small i below)) in
    omega (arith, ints, entries, sum)

-- the rows of a program
row_is : (program : Parts) (i : ℕ) → IsProgram program → i < length program.rows → IsRow (length program.columns) (row_of program.rows i)
row_is program i is within = is.built.each_row i no_row within

-- what the first pairs pay for a column
pub paid_for-small : (program : Parts) (pairs : List (ℕ × ℤ)) (k j : ℕ) → IsProgram program → AreLawful program.rows pairs → unsigned_abs (paid_for program.rows (take k pairs) j) ≤ 2 ^ 79
paid_for-small program pairs k j is lawful =
    prices_sum-small program.rows pairs (λ i. entry program.rows i j) is.built.few_rows lawful
    (λ i below. coefficient-small (terms_of program.rows i) (2 ^ 20) j (row_is program i is below).terms.rises (row_is program i is below).terms.small) k

-- what the first pairs pay for the right sides of their rows
pub paid_for_sides-small : (program : Parts) (pairs : List (ℕ × ℤ)) (k : ℕ) → IsProgram program → AreLawful program.rows pairs → unsigned_abs (paid_for_sides program.rows (take k pairs)) ≤ 2 ^ 79
paid_for_sides-small program pairs k is lawful = prices_sum-small program.rows pairs (λ i. (row_of program.rows i).rhs) is.built.few_rows lawful (λ i below. (row_is program i is below).rhs) k

-- pairs whose rows do not name a column pay nothing for it
pub paid_for-unnamed : (rows : List Row) (pairs : List (ℕ × ℤ)) (j : ℕ) → IsUnnamed rows pairs j → paid_for rows pairs j ≡ pos 0
paid_for-unnamed rows [] j unnamed = refl
paid_for-unnamed rows (pair ∷ pairs) j unnamed =
    let apart : All (λ (term : ℕ × ℤ). term.0 ≢ j) (terms_of rows pair.0) = All-head (λ (other : ℕ × ℤ). All (λ (term : ℕ × ℤ). term.0 ≢ j) (terms_of rows other.0)) pair pairs unnamed in
    let none : entry rows pair.0 j ≡ pos 0 = coefficient-none (terms_of rows pair.0) j apart in
    let product : pair.1 *ℤ entry rows pair.0 j ≡ pos 0 = *ℤ_comm pair.1 (entry rows pair.0 j) ∙ ap (λ (z : ℤ). z *ℤ pair.1) none ∙ zero-*ℤ pair.1 in
    let rest : paid_for rows pairs j ≡ pos 0 = paid_for-unnamed rows pairs j (All-tail (λ (other : ℕ × ℤ). All (λ (term : ℕ × ℤ). term.0 ≢ j) (terms_of rows other.0)) pair pairs unnamed) in
    omega (arith, ints, product, rest)

-- what the first pairs pay for each column is light
pub paid_for-light : (program : Parts) (pairs : List (ℕ × ℤ)) (k : ℕ) (paid : List ℤ) → IsProgram program → AreLawful program.rows pairs →
    ((j : ℕ) → j < length paid → paid_at paid j ≡ paid_for program.rows (take k pairs) j) → IsLight paid
paid_for-light program pairs k paid is lawful so_far = record { each = λ j below. omega (arith, ints, so_far j below, paid_for-small program pairs k j is lawful) }

-- nothing is paid for a column that no row of the pairs names
pub paid-unnamed : (rows : List Row) (pairs : List (ℕ × ℤ)) (paid : List ℤ) → ((j : ℕ) → j < length paid → paid_at paid j ≡ paid_for rows pairs j) →
    (j : ℕ) → IsUnnamed rows pairs j → paid_at paid j ≡ pos 0
paid-unnamed rows pairs paid is j unnamed =
    elim (cases_lt j (length paid)) [
      | inl below ↦ is j below ∙ paid_for-unnamed rows pairs j unnamed
      | inr past ↦ get_or_past paid j (pos 0) past
    ]

-- what is light stays so where a column is cleared
pub IsLight-cleared : (paid : List ℤ) (j : ℕ) → IsLight paid → IsLight (set paid j (pos 0))
IsLight-cleared paid j light = record {
  each = λ k below.
      let within : k < length paid = omega (arith, length-set paid j (pos 0)) in
      elim (cases_eq k j) [
        | inl e ↦ rw (e, get_or-set_same paid j (pos 0) (pos 0) (rw e at within)) (omega (arith, ints))
        | inr ne ↦ rw (get_or-set_other paid j k (pos 0) (pos 0) ne) (light.each k within)
      ];
}

-- a column is cleared that the next of some terms names
pub settled-one_more : (terms : List (ℕ × ℤ)) (k : ℕ) (d : ℕ × ℤ) (paid : List ℤ) (j : ℕ) → k < length terms → (get_or terms k d).0 < length paid →
    (All (λ (term : ℕ × ℤ). term.0 ≢ j) (drop k terms) → paid_at paid j ≡ pos 0) → All (λ (term : ℕ × ℤ). term.0 ≢ j) (drop (k + 1) terms) → paid_at (set paid (get_or terms k d).0 (pos 0)) j ≡ pos 0
settled-one_more terms k d paid j within there before apart =
    elim (cases_eq j (get_or terms k d).0) [
      | inl e ↦ rw e (get_or-set_same paid (get_or terms k d).0 (pos 0) (pos 0) there)
      | inr ne ↦
          let more : drop k terms ≡ get_or terms k d ∷ drop (k + 1) terms = rw (add-one) (drop-cons terms k d within) in
          get_or-set_other paid (get_or terms k d).0 j (pos 0) (pos 0) ne ∙ before (rw more (All-cons (λ (term : ℕ × ℤ). term.0 ≢ j) (get_or terms k d) (drop (k + 1) terms) (λ same. ne (sym same)) apart))
    ]

-- a column that neither the next of some pairs names nor one behind it
pub unnamed-one_more : (rows : List Row) (pairs : List (ℕ × ℤ)) (k j : ℕ) (d : ℕ × ℤ) → k < length pairs → All (λ (term : ℕ × ℤ). term.0 ≢ j) (terms_of rows (get_or pairs k d).0) → IsUnnamed rows (drop (k + 1) pairs) j →
    IsUnnamed rows (drop k pairs) j
unnamed-one_more rows pairs k j d within here later =
    let more : drop k pairs ≡ get_or pairs k d ∷ drop (k + 1) pairs = rw (add-one) (drop-cons pairs k d within) in
    rw more (All-cons (λ (pair : ℕ × ℤ). All (λ (term : ℕ × ℤ). term.0 ≢ j) (terms_of rows pair.0)) (get_or pairs k d) (drop (k + 1) pairs) here later)

-- ---- what all columns come to

-- how great it is
pub least_left-small : (program : Parts) (with_cost : Bool) (box : Ranges) (paid : List ℤ) → IsProgram program → IsBox box → length box.lows ≡ length program.columns → length paid ≡ length program.columns → IsLight paid →
    unsigned_abs (least_left program with_cost box paid) ≤ 2 ^ 119 + 2 ^ 70
unfolding least_left
least_left-small program with_cost box paid is box_is columns long light =
    let each : (j : ℕ) → j < length program.columns → unsigned_abs (column_value box (cost_counted program with_cost j -ℤ paid_at paid j) j) ≤ (2 ^ 79 + 2 ^ 30) * 2 ^ 20 =
    λ j below.
    let cost : unsigned_abs (cost_counted program with_cost j) ≤ 2 ^ 30 = cost_counted-small program with_cost j is below in
    let owed : unsigned_abs (paid_at paid j) ≤ 2 ^ 79 = light.each j (omega arith) in
    let less : unsigned_abs (cost_counted program with_cost j -ℤ paid_at paid j) ≤ 2 ^ 79 + 2 ^ 30 = omega (arith, ints, cost, owed) in
    omega (arith, less, column_value-small box (cost_counted program with_cost j -ℤ paid_at paid j) j (box_is.each j (omega arith))) in
    let few : length program.columns ≤ 2 ^ 20 = is.built.few_columns in
    omega (arith, few, whole_sum_below-small (length program.columns) ((2 ^ 79 + 2 ^ 30) * 2 ^ 20) (λ j. column_value box (cost_counted program with_cost j -ℤ paid_at paid j) j) each)

-- nothing less
less_none : (z : ℤ) → z -ℤ pos 0 ≡ z
less_none z = omega (arith, ints)

-- a column is settled
pub least_left-settled : (program : Parts) (with_cost : Bool) (box : Ranges) (paid : List ℤ) (j : ℕ) → j < length program.columns → length paid ≡ length program.columns →
    (column_value box (cost_counted program with_cost j -ℤ paid_at paid j) j -ℤ column_value box (cost_counted program with_cost j) j) +ℤ least_left program with_cost box (set paid j (pos 0)) ≡ least_left program with_cost box paid
unfolding least_left
least_left-settled program with_cost box paid j within long =
    let now : List ℤ = set paid j (pos 0) in
    let none : paid_at now j ≡ pos 0 = get_or-set_same paid j (pos 0) (pos 0) (omega arith) in
    let here : column_value box (cost_counted program with_cost j -ℤ paid_at now j) j ≡ column_value box (cost_counted program with_cost j) j =
    ap (λ (owed : ℤ). column_value box (cost_counted program with_cost j -ℤ owed) j) none ∙ ap (λ (cost : ℤ). column_value box cost j) (less_none (cost_counted program with_cost j)) in
    let changed = whole_sum_below-changed (length program.columns) j (λ k. column_value box (cost_counted program with_cost k -ℤ paid_at paid k) k) (λ k. column_value box (cost_counted program with_cost k -ℤ paid_at now k) k) within
    (λ k below apart. ap (λ (owed : ℤ). column_value box (cost_counted program with_cost k -ℤ owed) k) (get_or-set_other paid j k (pos 0) (pos 0) apart)) in
    omega (arith, ints, here, changed)

-- where nothing is paid all columns come to their costs
pub least_left-costs : (program : Parts) (box : Ranges) (paid : List ℤ) → IsUnpaid (length program.columns) paid → least_left program true box paid ≡ least_costs program box
unfolding least_left
least_left-costs program box paid unpaid =
    whole_sum_below-same (length program.columns) (λ j. column_value box (cost_counted program true j -ℤ paid_at paid j) j) (λ j. column_value box (cost_counted program true j) j)
    (λ j below. ap (λ (owed : ℤ). column_value box (cost_counted program true j -ℤ owed) j) (unpaid.none j) ∙ ap (λ (cost : ℤ). column_value box cost j) (less_none (cost_counted program true j)))

-- and without costs to nothing
pub least_left-none : (program : Parts) (box : Ranges) (paid : List ℤ) → IsUnpaid (length program.columns) paid → least_left program false box paid ≡ pos 0
unfolding least_left
least_left-none program box paid unpaid =
    whole_sum_below-none (length program.columns) (λ j. column_value box (cost_counted program false j -ℤ paid_at paid j) j)
    (λ j below. ap (λ (owed : ℤ). column_value box (pos 0 -ℤ owed) j) (unpaid.none j)
    ∙ ap (λ (low : ℤ). int_min low (pos 0 *ℤ high_of box j)) (zero-*ℤ (low_of box j)) ∙ ap (λ (high : ℤ). int_min (pos 0) high) (zero-*ℤ (high_of box j)))

-- ---- the value

-- what the rows pay for a column, from the rows and from the column
paid_from_column : (rows : List Row) (pairs : List (ℕ × ℤ)) (j : ℕ) → All (λ (pair : ℕ × ℤ). pair.0 < length rows) pairs → terms_sum (column_of rows j) (coefficient pairs) ≡ paid_for rows pairs j
paid_from_column rows pairs j there =
    column_sum rows j (coefficient pairs)
    ∙ whole_sum_below-same (length rows) (λ i. entry rows i j *ℤ coefficient pairs i) (λ i. coefficient pairs i *ℤ entry rows i j) (λ i below. *ℤ_comm (entry rows i j) (coefficient pairs i))
    ∙ sym (terms_sum-entries pairs (length rows) (λ i. entry rows i j) there)

-- once the pairs have paid, their value is what they pay for the right sides and what all columns come to
pub value_of_pairs-paid : (program : Parts) (with_cost : Bool) (box : Ranges) (pairs : List (ℕ × ℤ)) (paid : List ℤ) → All (λ (pair : ℕ × ℤ). pair.0 < length program.rows) pairs → length paid ≡ length program.columns →
    ((j : ℕ) → j < length paid → paid_at paid j ≡ paid_for program.rows pairs j) → value_of_pairs program with_cost box pairs ≡ paid_for_sides program.rows pairs +ℤ least_left program with_cost box paid
unfolding least_left value
value_of_pairs-paid program with_cost box pairs paid there long is =
    let sides : terms_sum pairs (λ i. (row_of program.rows i).rhs) ≡ whole_sum_below (length program.rows) (λ i. coefficient pairs i *ℤ (row_of program.rows i).rhs) =
    terms_sum-entries pairs (length program.rows) (λ i. (row_of program.rows i).rhs) there in
    let columns : whole_sum_below (length program.columns) (λ j. column_value box (reduced_cost program with_cost (coefficient pairs) j) j) ≡
    whole_sum_below (length program.columns) (λ j. column_value box (cost_counted program with_cost j -ℤ paid_at paid j) j) =
    whole_sum_below-same (length program.columns) (λ j. column_value box (reduced_cost program with_cost (coefficient pairs) j) j) (λ j. column_value box (cost_counted program with_cost j -ℤ paid_at paid j) j)
    (λ j below. ap (λ (owed : ℤ). column_value box (cost_counted program with_cost j -ℤ owed) j) (paid_from_column program.rows pairs j there ∙ sym (is j (omega arith)))) in
    omega (arith, ints, sides, columns)
