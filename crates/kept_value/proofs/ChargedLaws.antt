-- Laws of what columns come to while the terms of a row pay more for them: a term more, no term, and how steeply it changes with the price.
use Rattle.std.proofs.Common.{◌≡◌, ◌⊎◌, inl, inr, Bool, true, false, cond, All, refl, ℕ, zero, suc, ◌+◌, ◌<◌, ◌≤◌, List, [], length, get_or, set, take, ap, ◌∙◌, sym, arith, get_or-set_other, get_or-set_same}
use Rattle.std.specs.Prelude.{ℤ, not, pos, negsuc, ◌+ℤ◌, ◌-ℤ◌, ◌*ℤ◌, ◌≤ℤ◌}
use Rattle.std.specs.Int.{int_min}
use Rattle.std.proofs.Math.Bool.{beq}
use Rattle.std.proofs.Math.IntN.{*ℤ_comm, zero-*ℤ}
use Rattle.std.proofs.lemmas.Bool.{cases_eq}
use Rattle.std.proofs.lemmas.Int.{clamps, ints}
use Rattle.std.proofs.lemmas.List.{get_or-take, get_or_default, length-take}
use Rattle.listed.proofs.WholeSums.{times_sum, whole_sum_below-same}
use Rattle.sparse_program.specs.Box.{Ranges, high_of, low_of}
use Rattle.sparse_program.specs.Terms.{Rises, coefficient, terms_sum}
use Rattle.sparse_program.proofs.TermLaws.{coefficient-none, coefficient-term, sum_times, terms_sum-entries, times_swap}
use Rattle.certificate_model.specs.Value.{column_value}
use Rattle.safe_bound.proofs.CostedLaws.{least_at_high, whole_sum_below-changed}
use Rattle.safe_bound.proofs.PaidLaws.{coefficient-more_other, coefficient-more_same}
use Rattle.kept_value.specs.Kept.{best_bound, goes_to_low, reduced_at}
use Rattle.kept_value.specs.inner.Charged.{charged, least_of, stands_at}

-- ---- one column

-- a product of three, the first two taken together
times_times : (a b c : ℤ) → (a *ℤ b) *ℤ c ≡ a *ℤ (b *ℤ c)
times_times a b c = *ℤ_comm (a *ℤ b) c ∙ ap (λ (z : ℤ). c *ℤ z) (*ℤ_comm a b) ∙ sym (times_swap a b c)

-- what costs nothing or saves something comes to the least at the high
pub least-high : (cost low high : ℤ) → cost ≤ℤ pos 0 → low ≤ℤ high → cost *ℤ high ≡ int_min (cost *ℤ low) (cost *ℤ high)
least-high (pos zero) low high below bounds = omega (arith, ints, clamps, zero-*ℤ low, zero-*ℤ high)
least-high (pos (suc n)) low high below bounds = absurd (omega (arith, ints, below))
least-high (negsuc n) low high below bounds = least_at_high (negsuc n) low high (omega (arith, ints)) bounds

-- nothing more is paid
pub less_none : (cost price : ℤ) → cost -ℤ price *ℤ pos 0 ≡ cost
less_none cost price = let none : price *ℤ pos 0 ≡ pos 0 = *ℤ_comm price (pos 0) ∙ zero-*ℤ price in omega (arith, ints, none)

-- where the cost of one unit changes a column comes to no more than at the bound at which it came to its least
no_more : (box : Ranges) (j : ℕ) (cost bound : ℤ) → (bound ≡ low_of box j) ⊎ (bound ≡ high_of box j) → column_value box cost j ≤ℤ (cost *ℤ bound)
no_more box j cost bound (inl is) = rw is (omega (arith, ints, clamps))
no_more box j cost bound (inr is) = rw is (omega (arith, ints, clamps))

-- so what it comes to rises with a price no more steeply than there
pub column_value-slope : (box : Ranges) (j : ℕ) (cost number bound more : ℤ) → (bound ≡ low_of box j) ⊎ (bound ≡ high_of box j) → column_value box cost j ≡ cost *ℤ bound →
    column_value box (cost -ℤ more *ℤ number) j ≤ℤ (column_value box cost j +ℤ more *ℤ (pos 0 -ℤ number *ℤ bound))
column_value-slope box j cost number bound more at least =
    let there : column_value box (cost -ℤ more *ℤ number) j ≤ℤ ((cost -ℤ more *ℤ number) *ℤ bound) = no_more box j (cost -ℤ more *ℤ number) bound at in
    let parts : ((cost -ℤ more *ℤ number) +ℤ more *ℤ number) *ℤ bound ≡ (cost -ℤ more *ℤ number) *ℤ bound +ℤ (more *ℤ number) *ℤ bound = sum_times (cost -ℤ more *ℤ number) (more *ℤ number) bound in
    let whole : ((cost -ℤ more *ℤ number) +ℤ more *ℤ number) *ℤ bound ≡ cost *ℤ bound = ap (λ (z : ℤ). z *ℤ bound) (omega (arith, ints)) in
    let three : (more *ℤ number) *ℤ bound ≡ more *ℤ (number *ℤ bound) = times_times more number bound in
    let none : more *ℤ ((pos 0 -ℤ number *ℤ bound) +ℤ number *ℤ bound) ≡ more *ℤ (pos 0 -ℤ number *ℤ bound) +ℤ more *ℤ (number *ℤ bound) = times_sum more (pos 0 -ℤ number *ℤ bound) (number *ℤ bound) in
    let gone : more *ℤ ((pos 0 -ℤ number *ℤ bound) +ℤ number *ℤ bound) ≡ pos 0 = ap (λ (z : ℤ). more *ℤ z) (omega (arith, ints)) ∙ *ℤ_comm more (pos 0) ∙ zero-*ℤ more in
    omega (arith, ints, there, parts, whole, three, none, gone, least)

-- the test that the code makes is the one of the definition
pub goes_to_low-tested : (below rises : Bool) → beq below rises ≡ cond rises below (not below)
goes_to_low-tested true true = refl
goes_to_low-tested true false = refl
goes_to_low-tested false true = refl
goes_to_low-tested false false = refl

-- ---- all columns

-- terms that rise have their coefficients at their numbers
pub coefficient-here : (terms : List (ℕ × ℤ)) (k : ℕ) (d : ℕ × ℤ) → Rises terms → k < length terms → coefficient terms (get_or terms k d).0 ≡ (get_or terms k d).1
coefficient-here terms k d rises within =
    let t : ℕ × ℤ = get_or terms k d in
    coefficient-term terms k t.0 t.1 rises within (get_or_default terms k (t.0, t.1) d within)

-- where a column of a term stands
pub stands_at-here : (box : Ranges) (costs : ℕ → ℤ) (terms : List (ℕ × ℤ)) (price cost : ℤ) (rises : Bool) (k : ℕ) (d : ℕ × ℤ) → Rises terms → k < length terms → cost ≡ costs (get_or terms k d).0 -ℤ price *ℤ (get_or terms k d).1 →
    stands_at box costs terms price rises (get_or terms k d).0 ≡ best_bound box cost (goes_to_low (get_or terms k d).1 rises) (get_or terms k d).0
stands_at-here box costs terms price cost rises k d rising within is =
    let t : ℕ × ℤ = get_or terms k d in
    let here : coefficient terms t.0 ≡ t.1 = coefficient-here terms k d rising within in
    ap (λ (z : ℤ). best_bound box (costs t.0 -ℤ price *ℤ z) (goes_to_low z rises) t.0) here ∙ ap (λ (z : ℤ). best_bound box z (goes_to_low t.1 rises) t.0) (sym is)

-- sums of terms over values that are the same at their numbers
pub terms_sum-same : (terms : List (ℕ × ℤ)) (n : ℕ) (x y : ℕ → ℤ) → All (λ (term : ℕ × ℤ). term.0 < n) terms → ((j : ℕ) → j < n → x j ≡ y j) → terms_sum terms x ≡ terms_sum terms y
terms_sum-same terms n x y there same =
    terms_sum-entries terms n x there
    ∙ whole_sum_below-same n (λ j. coefficient terms j *ℤ x j) (λ j. coefficient terms j *ℤ y j) (λ j below. ap (λ (z : ℤ). coefficient terms j *ℤ z) (same j below))
    ∙ sym (terms_sum-entries terms n y there)

-- terms that rise have no coefficient yet at the number of a later term
pub coefficient-later : (terms : List (ℕ × ℤ)) (k : ℕ) (d : ℕ × ℤ) → Rises terms → k < length terms → coefficient (take k terms) (get_or terms k d).0 ≡ pos 0
coefficient-later terms k d rises within =
    coefficient-none (take k terms) (get_or terms k d).0
    (λ i e below same.
    let long : length (take k terms) ≤ k = grind (arith, length-take {A = ℕ × ℤ}) in
    let before : (get_or terms i e).0 < (get_or terms k e).0 = rises i k e (omega arith) within in
    let here : (get_or terms k e).0 ≡ (get_or terms k d).0 = ap (λ (term : ℕ × ℤ). term.0) (get_or_default terms k e d within) in
    let there : (get_or (take k terms) i e).0 ≡ (get_or terms i e).0 = ap (λ (term : ℕ × ℤ). term.0) (get_or-take k terms i e (omega arith)) in
    absurd (omega (arith, before, here, there, same)))

-- a term more changes its column alone
pub least_of-more : (columns : ℕ) (box : Ranges) (costs : ℕ → ℤ) (price : ℤ) (terms : List (ℕ × ℤ)) (k : ℕ) (d : ℕ × ℤ) → Rises terms → k < length terms → (get_or terms k d).0 < columns →
    least_of columns box (charged costs price (take (k + 1) terms)) ≡ least_of columns box (charged costs price (take k terms))
    +ℤ (column_value box (costs (get_or terms k d).0 -ℤ price *ℤ (get_or terms k d).1) (get_or terms k d).0 -ℤ column_value box (costs (get_or terms k d).0) (get_or terms k d).0)
unfolding least_of
least_of-more columns box costs price terms k d rises within there =
    let t : ℕ × ℤ = get_or terms k d in
    let none : coefficient (take k terms) t.0 ≡ pos 0 = coefficient-later terms k d rises within in
    let one : coefficient (take (k + 1) terms) t.0 ≡ t.1 = coefficient-more_same terms k d within ∙ (omega (arith, ints, none)) in
    let before : column_value box (charged costs price (take k terms) t.0) t.0 ≡ column_value box (costs t.0) t.0 =
    ap (λ (z : ℤ). column_value box (costs t.0 -ℤ price *ℤ z) t.0) none ∙ ap (λ (z : ℤ). column_value box z t.0) (less_none (costs t.0) price) in
    let now : column_value box (charged costs price (take (k + 1) terms) t.0) t.0 ≡ column_value box (costs t.0 -ℤ price *ℤ t.1) t.0 = ap (λ (z : ℤ). column_value box (costs t.0 -ℤ price *ℤ z) t.0) one in
    let changed = whole_sum_below-changed columns t.0 (λ j. column_value box (charged costs price (take k terms) j) j) (λ j. column_value box (charged costs price (take (k + 1) terms) j) j) there
    (λ j below apart. ap (λ (z : ℤ). column_value box (costs j -ℤ price *ℤ z) j) (coefficient-more_other terms k j d within apart)) in
    omega (arith, ints, before, now, changed)

-- what a column costs before its own term pays more for it
pub charged-later : (costs : ℕ → ℤ) (price : ℤ) (terms : List (ℕ × ℤ)) (k : ℕ) (d : ℕ × ℤ) → Rises terms → k < length terms → charged costs price (take k terms) (get_or terms k d).0 ≡ costs (get_or terms k d).0
charged-later costs price terms k d rises within =
    ap (λ (z : ℤ). costs (get_or terms k d).0 -ℤ price *ℤ z) (coefficient-later terms k d rises within) ∙ less_none (costs (get_or terms k d).0) price

-- a term more is written
pub charged-one_more : (costs : ℕ → ℤ) (price new : ℤ) (terms : List (ℕ × ℤ)) (k : ℕ) (d : ℕ × ℤ) (now : List ℤ) → Rises terms → k < length terms → (get_or terms k d).0 < length now →
    ((j : ℕ) → j < length now → reduced_at now j ≡ charged costs price (take k terms) j) → new ≡ costs (get_or terms k d).0 -ℤ price *ℤ (get_or terms k d).1 →
    (j : ℕ) → j < length now → reduced_at (set now (get_or terms k d).0 new) j ≡ charged costs price (take (k + 1) terms) j
charged-one_more costs price new terms k d now rises within there so_far is j below =
    let t : ℕ × ℤ = get_or terms k d in
    elim (cases_eq j t.0) [
      | inl e ↦
          let one : coefficient (take (k + 1) terms) t.0 ≡ t.1 = coefficient-more_same terms k d within ∙ (let none : coefficient (take k terms) t.0 ≡ pos 0 = coefficient-later terms k d rises within in omega (arith, ints, none)) in
          rw e (get_or-set_same now t.0 new (pos 0) there ∙ is ∙ ap (λ (z : ℤ). costs t.0 -ℤ price *ℤ z) (sym one))
      | inr ne ↦ get_or-set_other now t.0 j new (pos 0) ne ∙ so_far j below ∙ ap (λ (z : ℤ). costs j -ℤ price *ℤ z) (sym (coefficient-more_other terms k j d within ne))
    ]

-- without a term all columns come to what they cost
pub least_of-none : (columns : ℕ) (box : Ranges) (costs : ℕ → ℤ) (price : ℤ) → least_of columns box (charged costs price []) ≡ least_of columns box costs
unfolding least_of
least_of-none columns box costs price = whole_sum_below-same columns (λ j. column_value box (charged costs price [] j) j) (λ j. column_value box (costs j) j) (λ j below. ap (λ (z : ℤ). column_value box z j) (less_none (costs j) price))

-- equal costs
pub least_of-same : (columns : ℕ) (box : Ranges) (costs others : ℕ → ℤ) → ((j : ℕ) → j < columns → costs j ≡ others j) → least_of columns box costs ≡ least_of columns box others
unfolding least_of
least_of-same columns box costs others same = whole_sum_below-same columns (λ j. column_value box (costs j) j) (λ j. column_value box (others j) j) (λ j below. ap (λ (z : ℤ). column_value box z j) (same j below))

-- what one column has risen by with one term more, from one price to another
other_price : (cost price other number : ℤ) → (cost -ℤ price *ℤ number) -ℤ (other -ℤ price) *ℤ number ≡ cost -ℤ other *ℤ number
other_price cost price other number =
    let parts : ((other -ℤ price) +ℤ price) *ℤ number ≡ (other -ℤ price) *ℤ number +ℤ price *ℤ number = sum_times (other -ℤ price) price number in
    let whole : ((other -ℤ price) +ℤ price) *ℤ number ≡ other *ℤ number = ap (λ (z : ℤ). z *ℤ number) (omega (arith, ints)) in
    omega (arith, ints, parts, whole)

-- how steeply all columns rise from one price, with one term more
pub least_of-slope : (columns : ℕ) (box : Ranges) (costs : ℕ → ℤ) (price other slope more : ℤ) (terms : List (ℕ × ℤ)) (k : ℕ) (d : ℕ × ℤ) → Rises terms → k < length terms → (get_or terms k d).0 < columns →
    least_of columns box (charged costs other (take k terms)) ≤ℤ (least_of columns box (charged costs price (take k terms)) +ℤ (other -ℤ price) *ℤ slope) →
    column_value box ((costs (get_or terms k d).0 -ℤ price *ℤ (get_or terms k d).1) -ℤ (other -ℤ price) *ℤ (get_or terms k d).1) (get_or terms k d).0
    ≤ℤ (column_value box (costs (get_or terms k d).0 -ℤ price *ℤ (get_or terms k d).1) (get_or terms k d).0 +ℤ (other -ℤ price) *ℤ more) →
    least_of columns box (charged costs other (take (k + 1) terms)) ≤ℤ (least_of columns box (charged costs price (take (k + 1) terms)) +ℤ (other -ℤ price) *ℤ (slope +ℤ more))
least_of-slope columns box costs price other slope more terms k d rises within there so_far here =
    let t : ℕ × ℤ = get_or terms k d in
    let at : column_value box (costs t.0 -ℤ other *ℤ t.1) t.0 ≤ℤ (column_value box (costs t.0 -ℤ price *ℤ t.1) t.0 +ℤ (other -ℤ price) *ℤ more) = rw (other_price (costs t.0) price other t.1) at here in
    let both : (other -ℤ price) *ℤ (slope +ℤ more) ≡ (other -ℤ price) *ℤ slope +ℤ (other -ℤ price) *ℤ more = times_sum (other -ℤ price) slope more in
    omega (arith, ints, at, both, so_far, least_of-more columns box costs other terms k d rises within there, least_of-more columns box costs price terms k d rises within there)
