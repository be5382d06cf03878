use Rattle.std.proofs.Common.{rules, ◌≡◌, ◌*ℤ◌, arith, sym}
use Rattle.std.specs.Int.{w64}
use Rattle.std.specs.Prelude.{FitsSigned, ℤ}
use Rattle.std.proofs.lemmas.Int.{ints, to_z-of_z}
use Rattle.sparse_program.specs.Program.{row_of}
use Rattle.safe_bound.specs.Prices.{price_at}
use Rattle.safe_bound.proofs.PriceLaws.{paid_below-more, paid_below-zero}
use Rattle.safe_bound.proofs.priced.rows_value.Goals as goal

pub loop-i-init : goal.loop-i-init
loop-i-init c = record { is = sym (paid_below-zero c.args.program.now.rows c.args.prices.now); small = omega arith }

pub loop-i-preserved : goal.loop-i-preserved
loop-i-preserved c =
    let price : ℤ = price_at c.args.prices.now c.loop-i.i in
    let fits_price : FitsSigned w64 price = search rules in
    let fits_rhs : FitsSigned w64 c.row.result.now.rhs = search rules in
    let product : c.product-sum.result ≡ price *ℤ (row_of c.args.program.now.rows c.loop-i.i).rhs = rw c.row.ensures.value at (simp to_z-of_z at c.product-sum.ensures.value) in
    record {
      is = omega (arith, ints, product, paid_below-more c.args.program.now.rows c.args.prices.now c.loop-i.i);
      small = omega (arith, ints);
    }
