use Rattle.std.proofs.Common.{rules, ◌≡◌, arith, sym}
use Rattle.std.specs.Int.{w64, w128}
use Rattle.std.specs.Prelude.{FitsSigned}
use Rattle.std.proofs.lemmas.Int.{ints, to_z-of_z}
use Rattle.certificate_model.specs.Value.{column_value, reduced_cost}
use Rattle.safe_bound.specs.Prices.{price_at}
use Rattle.safe_bound.proofs.PriceLaws.{least_below-more, least_below-zero}
use Rattle.safe_bound.proofs.priced.columns_value.Goals as goal

pub loop-j-init : goal.loop-j-init
loop-j-init c = record { is = sym (least_below-zero c.args.program.now c.args.with_cost c.args.bounds.now c.args.prices.now); small = omega arith }

pub loop-j-preserved : goal.loop-j-preserved
loop-j-preserved c =
    let fits_cost : FitsSigned w128 c.reduced_cost-cost.result = search rules in
    let fits_low : FitsSigned w64 c.low.result = search rules in
    let fits_high : FitsSigned w64 c.high.result = search rules in
    let column : c.least-sum.result ≡ column_value c.args.bounds.now (reduced_cost c.args.program.now c.args.with_cost (price_at c.args.prices.now) c.loop-j.j) c.loop-j.j =
    rw (c.reduced_cost-cost.ensures.value, c.low.ensures.value, c.high.ensures.value) at (simp to_z-of_z at c.least-sum.ensures.value) in
    record {
      is = omega (arith, ints, column, least_below-more c.args.program.now c.args.with_cost c.args.bounds.now c.args.prices.now c.loop-j.j);
      small = omega (arith, ints);
    }
