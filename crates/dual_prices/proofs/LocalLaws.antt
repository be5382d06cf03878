-- The gain of a change depends on the columns of its row alone, so that a change of one price leaves the rows settled that have no column
-- in common with it.
use Rattle.std.proofs.Common.{◌≡◌, ◌≢◌, ◌⊎◌, inl, inr, ℕ, ◌<◌, List, length, true, refl, ap, ◌∙◌, sym, arith}
use Rattle.std.specs.Prelude.{ℤ, pos, ◌+ℤ◌, ◌-ℤ◌, ◌*ℤ◌}
use Rattle.std.proofs.lemmas.Int.{ints}
use Rattle.std.proofs.lemmas.List.{length-set}
use Rattle.listed.proofs.WholeSums.{whole_sum_below-same, whole_sum_below-sub}
use Rattle.sparse_program.specs.Box.{Ranges}
use Rattle.sparse_program.specs.Program.{Parts, row_of, terms_of}
use Rattle.sparse_program.specs.Terms.{coefficient}
use Rattle.sparse_program.specs.declared.row.Row.{Row}
use Rattle.certificate_model.specs.Value.{column_value, reduced_cost}
use Rattle.safe_bound.specs.Prices.{ArePrices, price_at}
use Rattle.kept_value.specs.Kept.{gain_of, repriced}
use Rattle.kept_value.specs.inner.Charged.{charged, least_of}
use Rattle.kept_value.proofs.ChargedLaws.{less_none}
use Rattle.kept_value.proofs.KeptLaws.{AreReduced, AreReduced-charged, gain_of-charged}
use Rattle.kept_value.proofs.RepricedLaws.{ArePrices-repriced, IsAllowed-repriced, repriced-other}
use Rattle.dual_prices.specs.Settled.{IsSettledRow, change_of}
use Rattle.dual_prices.specs.inner.Waiting.{AreApart}
use Rattle.dual_prices.proofs.GainLaws.{less_itself}

-- what one column comes to more, where one of two rows does not name it
column_value-apart : (box : Ranges) (j : ℕ) (cost by more : ℤ) (ours others : ℤ) → (ours ≡ pos 0) ⊎ (others ≡ pos 0) →
    column_value box ((cost -ℤ by *ℤ ours) -ℤ more *ℤ others) j -ℤ column_value box (cost -ℤ by *ℤ ours) j ≡ column_value box (cost -ℤ more *ℤ others) j -ℤ column_value box cost j
column_value-apart box j cost by more ours others (inl none) =
    let same : cost -ℤ by *ℤ ours ≡ cost = ap (λ (z : ℤ). cost -ℤ by *ℤ z) none ∙ less_none cost by in
    ap (λ (z : ℤ). column_value box (z -ℤ more *ℤ others) j -ℤ column_value box z j) same
column_value-apart box j cost by more ours others (inr none) =
    let same = λ (z : ℤ). ap (λ (w : ℤ). z -ℤ more *ℤ w) none ∙ less_none z more in
    ap (λ (z : ℤ). column_value box z j -ℤ column_value box (cost -ℤ by *ℤ ours) j) (same (cost -ℤ by *ℤ ours)) ∙ less_itself (column_value box (cost -ℤ by *ℤ ours) j)
    ∙ sym (ap (λ (z : ℤ). column_value box z j -ℤ column_value box cost j) (same cost) ∙ less_itself (column_value box cost j))

-- what all columns come to more where a row pays more for its own does not change with what another row pays, if they have none in common
least_of-apart : (columns : ℕ) (box : Ranges) (costs : ℕ → ℤ) (by more : ℤ) (ours others : List (ℕ × ℤ)) → ((j : ℕ) → (coefficient ours j ≡ pos 0) ⊎ (coefficient others j ≡ pos 0)) →
    least_of columns box (charged (charged costs by ours) more others) -ℤ least_of columns box (charged costs by ours) ≡ least_of columns box (charged costs more others) -ℤ least_of columns box costs
unfolding least_of
least_of-apart columns box costs by more ours others apart =
    let both : ℕ → ℤ = λ j. column_value box (charged (charged costs by ours) more others j) j in
    let first : ℕ → ℤ = λ j. column_value box (charged costs by ours j) j in
    let second : ℕ → ℤ = λ j. column_value box (charged costs more others j) j in
    let none : ℕ → ℤ = λ j. column_value box (costs j) j in
    sym (whole_sum_below-sub columns both first)
    ∙ whole_sum_below-same columns (λ j. both j -ℤ first j) (λ j. second j -ℤ none j) (λ j below. column_value-apart box j (costs j) by more (coefficient ours j) (coefficient others j) (apart j))
    ∙ whole_sum_below-sub columns second none

-- so the gain of a change of its price stays the same
pub gain_of-apart : (program : Parts) (box : Ranges) (prices : List ℤ) (row other : ℕ) (by more : ℤ) → length prices ≡ length program.rows → row < length program.rows → other < length program.rows →
    AreApart program.rows row other → gain_of program box (repriced prices row by) other more ≡ gain_of program box prices other more
gain_of-apart program box prices row other by more long within there apart =
    let costs : ℕ → ℤ = reduced_cost program true (price_at prices) in
    let are : AreReduced program prices costs = λ j below. refl in
    let ours : List (ℕ × ℤ) = terms_of program.rows row in
    let others : List (ℕ × ℤ) = terms_of program.rows other in
    let columns : ℕ = length program.columns in
    let before = gain_of-charged program box prices costs other more are there long in
    let after = gain_of-charged program box (repriced prices row by) (charged costs by ours) other more (AreReduced-charged program prices costs row by are within long) there (length-set prices row (price_at prices row +ℤ by) ∙ long) in
    after ∙ ap (λ (z : ℤ). more *ℤ (row_of program.rows other).rhs +ℤ z) (least_of-apart columns box costs by more ours others apart) ∙ sym before

-- and a change that is lawful after it was lawful before
lawful-apart : (rows : List Row) (prices : List ℤ) (row other : ℕ) (by more : ℤ) → ArePrices rows prices → other < length rows → other ≢ row →
    ArePrices rows (repriced (repriced prices row by) other more) → ArePrices rows (repriced prices other more)
lawful-apart rows prices row other by more lawful there apart again =
    let allowed = IsAllowed-repriced rows (repriced prices row by) other more (length-set prices row (price_at prices row +ℤ by) ∙ lawful.one_per_row) there again in
    ArePrices-repriced rows prices other more lawful there (rw (repriced-other prices row other by apart) at allowed)

-- so a row stays settled
pub IsSettledRow-apart : (program : Parts) (box : Ranges) (prices : List ℤ) (row other : ℕ) (by : ℤ) → ArePrices program.rows prices → row < length program.rows → other < length program.rows → other ≢ row → AreApart program.rows row other →
    IsSettledRow program box prices other → IsSettledRow program box (repriced prices row by) other
IsSettledRow-apart program box prices row other by lawful within there apart columns settled = record {
  none = λ falls k few again.
      let same = gain_of-apart program box prices row other by (change_of falls k) lawful.one_per_row within there columns in
      let before = settled.none falls k few (lawful-apart program.rows prices row other by (change_of falls k) lawful there apart again) in
      omega (arith, ints, same, before);
}
