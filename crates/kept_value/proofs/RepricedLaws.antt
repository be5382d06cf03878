-- When prices are lawful of which one changes.
use Rattle.std.proofs.Common.{◌≡◌, ◌≢◌, inl, inr, ℕ, ◌<◌, ◌≤◌, List, length, ◌∙◌, arith, get_or-set_other, get_or-set_same}
use Rattle.std.specs.Prelude.{ℤ, pos, ◌+ℤ◌, unsigned_abs}
use Rattle.std.proofs.lemmas.Bool.{cases_eq}
use Rattle.std.proofs.lemmas.List.{length-set}
use Rattle.sparse_program.specs.Program.{row_of}
use Rattle.sparse_program.specs.declared.row.Row.{Row}
use Rattle.certificate_model.specs.Value.{IsSigned, most_price}
use Rattle.safe_bound.specs.Prices.{ArePrices, price_at}
use Rattle.kept_value.specs.Kept.{repriced}

-- a price is not too great, and is allowed on a row
abbrev pub IsAllowed : Row → ℤ → Type 0
IsAllowed row price = (unsigned_abs price ≤ most_price) × IsSigned row price

-- the price that changes
pub repriced-same : (prices : List ℤ) (row : ℕ) (by : ℤ) → row < length prices → price_at (repriced prices row by) row ≡ price_at prices row +ℤ by
repriced-same prices row by there = get_or-set_same prices row (price_at prices row +ℤ by) (pos 0) there

-- the others stay
pub repriced-other : (prices : List ℤ) (row i : ℕ) (by : ℤ) → i ≢ row → price_at (repriced prices row by) i ≡ price_at prices i
repriced-other prices row i by apart = get_or-set_other prices row i (price_at prices row +ℤ by) (pos 0) apart

-- lawful prices stay lawful where one becomes another that is allowed
pub ArePrices-repriced : (rows : List Row) (prices : List ℤ) (row : ℕ) (by : ℤ) → ArePrices rows prices → row < length rows → IsAllowed (row_of rows row) (price_at prices row +ℤ by) → ArePrices rows (repriced prices row by)
ArePrices-repriced rows prices row by lawful within allowed =
    let new : ℤ = price_at prices row +ℤ by in
    let there : row < length prices = omega (arith, within, lawful.one_per_row) in
    record {
      one_per_row = length-set prices row new ∙ lawful.one_per_row;
      within = λ k d below.
          elim (cases_eq k row) [
            | inl e ↦ rw (e, get_or-set_same prices row new d there) allowed.0
            | inr ne ↦ rw (get_or-set_other prices row k new d ne) (lawful.within k d (omega (arith, below, length-set prices row new)))
          ];
      signed = λ i below.
          elim (cases_eq i row) [
            | inl e ↦ rw (e, repriced-same prices row by there) allowed.1
            | inr ne ↦ rw (repriced-other prices row i by ne) (lawful.signed i below)
          ];
    }

-- and only there
pub IsAllowed-repriced : (rows : List Row) (prices : List ℤ) (row : ℕ) (by : ℤ) → length prices ≡ length rows → row < length rows → ArePrices rows (repriced prices row by) → IsAllowed (row_of rows row) (price_at prices row +ℤ by)
IsAllowed-repriced rows prices row by long within lawful =
    let there : row < length prices = omega (arith, within, long) in
    let new : ℤ = price_at prices row +ℤ by in
    let is : price_at (repriced prices row by) row ≡ new = repriced-same prices row by there in (
      rw is at (lawful.within row (pos 0) (omega (arith, there, length-set prices row new))),
      rw is at (lawful.signed row within),
    )
