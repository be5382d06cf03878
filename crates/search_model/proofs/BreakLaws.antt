-- A row that fixed values break shows by its own price that a box is empty.
use Rattle.std.proofs.Common.{◌≡◌, ◌≢◌, ◌⊎◌, inl, inr, ℕ, ◌<◌, List, [], ◌∷◌, All, length, refl, ap, ◌∙◌, sym, arith}
use Rattle.std.specs.Prelude.{ℤ, pos, ◌+ℤ◌, ◌-ℤ◌, ◌*ℤ◌, false}
use Rattle.std.proofs.lemmas.Bool.{cases_Bool, eq-eqb, eqb-true, ne_eqb}
use Rattle.std.proofs.Math.IntN.{*ℤ_comm, zero-*ℤ}
use Rattle.std.proofs.lemmas.Int.{clamps, ints}
use Rattle.std.proofs.lemmas.List.Elements.{All-head, All-tail}
use Rattle.listed.specs.Below.{whole_sum_below}
use Rattle.listed.proofs.WholeSums.{times_sum, whole_sum_below-none, whole_sum_below-only, whole_sum_below-same, whole_sum_below-sub}
use Rattle.sparse_program.specs.Box.{Ranges, high_of, low_of}
use Rattle.sparse_program.specs.Program.{Parts, column_of, entry, row_of, terms_of}
use Rattle.sparse_program.specs.Terms.{coefficient, names, terms_sum}
use Rattle.sparse_program.proofs.MatrixLaws.{column_sum}
use Rattle.sparse_program.proofs.TermLaws.{sum_times}
use Rattle.certificate_model.specs.Value.{column_value, reduced_cost, value}
use Rattle.certificate_model.proofs.ValueLaws.{TermsThere, sums_meet}
use Rattle.search_model.specs.Breaks.{IsFixedAt, one_price}

-- each term's column is fixed at its value, or the terms do not name it
fixed_or_unnamed : (box : Ranges) (x : ℕ → ℤ) (terms : List (ℕ × ℤ)) (j : ℕ) → All (λ (term : ℕ × ℤ). IsFixedAt box x term.0) terms → (coefficient terms j ≡ pos 0) ⊎ IsFixedAt box x j
fixed_or_unnamed box x [] j fixed = inl refl
fixed_or_unnamed box x (term ∷ terms) j fixed =
    elim (cases_Bool (names j term)) [
      | inl same ↦ inr (rw (← eqb-true term.0 j same) (All-head (λ (other : ℕ × ℤ). IsFixedAt box x other.0) term terms fixed))
      | inr other ↦
          elim (fixed_or_unnamed box x terms j (All-tail (λ (other : ℕ × ℤ). IsFixedAt box x other.0) term terms fixed)) [
            | inl none ↦ inl (rw other (omega (arith, ints, none)))
            | inr is ↦ inr is
          ]
    ]

-- the prices of one pair
price_here : (row : ℕ) (price : ℤ) → one_price row price row ≡ price
price_here row price = rw (eq-eqb row row refl) (omega (arith, ints))

price_elsewhere : (row i : ℕ) (price : ℤ) → i ≢ row → one_price row price i ≡ pos 0
price_elsewhere row i price other = rw (ne_eqb row i (λ same. other (sym same))) (omega (arith, ints))

-- what one row pays for a column
paid_by_one : (program : Parts) (row j : ℕ) (price : ℤ) → row < length program.rows →
    terms_sum (column_of program.rows j) (one_price row price) ≡ entry program.rows row j *ℤ price
paid_by_one program row j price there =
    column_sum program.rows j (one_price row price)
    ∙ whole_sum_below-only (length program.rows) row (λ i. entry program.rows i j *ℤ one_price row price i) there
    (λ i inside other. ap (λ (z : ℤ). entry program.rows i j *ℤ z) (price_elsewhere row i price other) ∙ *ℤ_comm (entry program.rows i j) (pos 0) ∙ zero-*ℤ (entry program.rows i j))
    ∙ ap (λ (z : ℤ). entry program.rows row j *ℤ z) (price_here row price)

-- products of differences
minus_times : (s x : ℤ) → (pos 0 -ℤ s) *ℤ x ≡ pos 0 -ℤ x *ℤ s
minus_times s x =
    let whole : ((pos 0 -ℤ s) +ℤ s) *ℤ x ≡ (pos 0 -ℤ s) *ℤ x +ℤ s *ℤ x = sum_times (pos 0 -ℤ s) s x in
    let same : (pos 0 -ℤ s) +ℤ s ≡ pos 0 = omega (arith, ints) in
    let back : ((pos 0 -ℤ s) +ℤ s) *ℤ x ≡ pos 0 *ℤ x = ap (λ (z : ℤ). z *ℤ x) same in
    let none = zero-*ℤ x in
    let turned : s *ℤ x ≡ x *ℤ s = *ℤ_comm s x in
    omega (arith, ints, whole, back, none, turned)

times_less : (p a b : ℤ) → p *ℤ (a -ℤ b) ≡ p *ℤ a -ℤ p *ℤ b
times_less p a b =
    let whole : p *ℤ ((a -ℤ b) +ℤ b) ≡ p *ℤ (a -ℤ b) +ℤ p *ℤ b = times_sum p (a -ℤ b) b in
    let same : (a -ℤ b) +ℤ b ≡ a = omega (arith, ints) in
    let back : p *ℤ ((a -ℤ b) +ℤ b) ≡ p *ℤ a = ap (λ (z : ℤ). p *ℤ z) same in
    omega (arith, ints, whole, back)

-- a column comes to its value times what it costs, where it is fixed or costs nothing
comes_to : (box : Ranges) (x : ℕ → ℤ) (cost : ℤ) (j : ℕ) → (cost ≡ pos 0) ⊎ IsFixedAt box x j → column_value box cost j ≡ cost *ℤ x j
comes_to box x cost j (inl none) =
    rw none (let low = zero-*ℤ (low_of box j) in let high = zero-*ℤ (high_of box j) in let value = zero-*ℤ (x j) in omega (arith, ints, clamps, low, high, value))
comes_to box x cost j (inr is) = rw (is.low, is.high) (omega (arith, ints, clamps))

-- so the value of one price over a box that fixes the columns of its row is what the row lacks, times the price
pub one_price_value : (program : Parts) (box : Ranges) (row : ℕ) (price : ℤ) (x : ℕ → ℤ) → TermsThere (length program.columns) program.rows → row < length program.rows →
    All (λ (term : ℕ × ℤ). IsFixedAt box x term.0) (terms_of program.rows row) →
    value program false box (one_price row price) ≡ price *ℤ ((row_of program.rows row).rhs -ℤ terms_sum (terms_of program.rows row) x)
unfolding value
one_price_value program box row price x there within fixed =
    let p : ℕ → ℤ = one_price row price in
    let sides : ℕ → ℤ = λ i. p i *ℤ (row_of program.rows i).rhs in
    let sums : ℕ → ℤ = λ i. p i *ℤ terms_sum (terms_of program.rows i) x in
    let back : ℕ → ℤ = λ j. x j *ℤ terms_sum (column_of program.rows j) p in
    let right : whole_sum_below (length program.rows) sides ≡ price *ℤ (row_of program.rows row).rhs =
    whole_sum_below-only (length program.rows) row sides within (λ i inside other. ap (λ (z : ℤ). z *ℤ (row_of program.rows i).rhs) (price_elsewhere row i price other) ∙ zero-*ℤ ((row_of program.rows i).rhs))
    ∙ ap (λ (z : ℤ). z *ℤ (row_of program.rows row).rhs) (price_here row price) in
    let left : whole_sum_below (length program.rows) sums ≡ price *ℤ terms_sum (terms_of program.rows row) x =
    whole_sum_below-only (length program.rows) row sums within (λ i inside other. ap (λ (z : ℤ). z *ℤ terms_sum (terms_of program.rows i) x) (price_elsewhere row i price other) ∙ zero-*ℤ (terms_sum (terms_of program.rows i) x))
    ∙ ap (λ (z : ℤ). z *ℤ terms_sum (terms_of program.rows row) x) (price_here row price) in
    let meet : whole_sum_below (length program.rows) sums ≡ whole_sum_below (length program.columns) back = sums_meet (length program.columns) program.rows p x there in
    let columns : whole_sum_below (length program.columns) (λ j. column_value box (reduced_cost program false p j) j) ≡ pos 0 -ℤ whole_sum_below (length program.columns) back =
    whole_sum_below-same (length program.columns) (λ j. column_value box (reduced_cost program false p j) j) (λ j. pos 0 -ℤ back j)
    (λ j inside.
    comes_to box x (reduced_cost program false p j) j
    (elim (fixed_or_unnamed box x (terms_of program.rows row) j fixed) [
      | inl none ↦
          let paid : terms_sum (column_of program.rows j) p ≡ pos 0 = paid_by_one program row j price within ∙ ap (λ (z : ℤ). z *ℤ price) none ∙ zero-*ℤ price in
          inl (omega (arith, ints, paid))
      | inr is ↦ inr is
    ])
    ∙ minus_times (terms_sum (column_of program.rows j) p) (x j))
    ∙ whole_sum_below-sub (length program.columns) (λ j. pos 0) back
    ∙ ap (λ (z : ℤ). z -ℤ whole_sum_below (length program.columns) back) (whole_sum_below-none (length program.columns) (λ j. pos 0) (λ j inside. refl)) in
    let lacks : price *ℤ ((row_of program.rows row).rhs -ℤ terms_sum (terms_of program.rows row) x) ≡ price *ℤ (row_of program.rows row).rhs -ℤ price *ℤ terms_sum (terms_of program.rows row) x =
    times_less price (row_of program.rows row).rhs (terms_sum (terms_of program.rows row) x) in
    omega (arith, ints, right, left, meet, columns, lacks)
