use Rattle.std.proofs.Common.{◌≡◌, arith}
use Rattle.std.specs.Int.{w64}
use Rattle.std.specs.Prelude.{FitsSigned, ◌*ℤ◌}
use Rattle.std.proofs.lemmas.Int.{ints, to_z-of_z}
use Rattle.kept_value.proofs.charged.charged.Goals as goal

pub returns-clause-value : goal.returns-clause-value
returns-clause-value c =
    let price : FitsSigned w64 c.args.price = c.ranges.price in
    let coefficient : FitsSigned w64 c.args.coefficient = c.ranges.coefficient in
    let paid : c.payment.result ≡ c.args.price *ℤ c.args.coefficient = simp to_z-of_z at c.payment.ensures.value in
    omega (arith, ints, paid, c.payment.ensures.small)
