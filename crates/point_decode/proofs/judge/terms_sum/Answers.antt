use Rattle.std.proofs.Common.{rules, ℕ, ◌≡◌, ◌*ℤ◌, pos, get_or, arith}
use Rattle.std.specs.Int.{w64}
use Rattle.std.specs.Prelude.{FitsSigned, ℤ}
use Rattle.std.proofs.lemmas.Int.{ints, to_z-of_z}
use Rattle.program_model.specs.Points.{value_at}
use Rattle.point_decode.proofs.SmallValues.{terms_sum-more}
use Rattle.point_decode.proofs.judge.terms_sum.Goals as goal

pub loop-term-preserved : goal.loop-term-preserved
loop-term-preserved c =
    let term : ℕ × ℤ = get_or c.args.terms.now c.loop-term.term-index (0, pos 0) in
    let value : ℤ = value_at c.args.point.now term.0 in
    let more = terms_sum-more c.args.terms.now c.loop-term.term-index (0, pos 0) (value_at c.args.point.now) (omega arith) in
    let fits_value : FitsSigned w64 value = search rules in
    let fits_term : FitsSigned w64 term.1 = search rules in
    let product : c.product-sum.result ≡ term.1 *ℤ value = simp to_z-of_z at c.product-sum.ensures.value in
    record {
      is = omega (arith, ints, more, product);
      small = omega (arith, ints);
    }
