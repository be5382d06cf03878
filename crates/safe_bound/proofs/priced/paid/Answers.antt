use Rattle.std.proofs.Common.{rules, ℕ, ◌≡◌, ◌*ℤ◌, pos, length, get_or, arith}
use Rattle.std.specs.Int.{w64}
use Rattle.std.specs.Prelude.{FitsSigned, ℤ}
use Rattle.std.proofs.Math.IntN.{*ℤ_comm}
use Rattle.std.proofs.lemmas.Int.{ints, to_z-of_z}
use Rattle.safe_bound.specs.Prices.{price_at}
use Rattle.safe_bound.proofs.PriceLaws.{rising_few, terms_sum-more}
use Rattle.safe_bound.proofs.priced.paid.Goals as goal

pub loop-entry-preserved : goal.loop-entry-preserved
loop-entry-preserved c =
    let entry : ℕ × ℤ = get_or c.args.column.now c.loop-entry.entry-index (0, pos 0) in
    let price : ℤ = price_at c.args.prices.now entry.0 in
    let more = terms_sum-more c.args.column.now c.loop-entry.entry-index (0, pos 0) (price_at c.args.prices.now) (omega arith) in
    let turned : entry.1 *ℤ price ≡ price *ℤ entry.1 = *ℤ_comm entry.1 price in
    let fits_price : FitsSigned w64 price = search rules in
    let fits_entry : FitsSigned w64 entry.1 = search rules in
    let product : c.product-sum.result ≡ price *ℤ entry.1 = simp to_z-of_z at c.product-sum.ensures.value in
    record {
      is = omega (arith, ints, more, turned, product);
      small = omega (arith, ints);
    }

pub returns-clause-small : goal.returns-clause-small
returns-clause-small c = omega (arith, rising_few c.args.column.now (length c.args.prices.now) c.requires.lawful.rises c.requires.lawful.there)
