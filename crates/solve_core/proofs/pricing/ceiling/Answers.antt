use Rattle.std.proofs.Common.{◌≡◌, arith}
use Rattle.std.specs.Prelude.{ℤ, pos, ◌+ℤ◌, ◌-ℤ◌}
use Rattle.std.specs.Int.{int_div_euclid, w128}
use Rattle.std.proofs.lemmas.Int.{ints}
use mir.Val.{of_z, to_z}
use Rattle.certificate_model.proofs.ReasonLaws.{ceiling_is}
use Rattle.solve_core.proofs.pricing.ceiling.Goals as goal

pub returns : goal.returns
returns c =
    let value : ℤ = c.args.value in
    let scale : to_z w128 (of_z w128 c.from-scale.result) ≡ pos 1024 = omega (arith, ints, c.from-scale.ensures) in
    let more : to_z w128 (of_z w128 (to_z w128 (of_z w128 value) +ℤ to_z w128 (of_z w128 (to_z w128 (of_z w128 c.from-scale.result) -ℤ pos 1)))) ≡ value +ℤ pos 1023 = omega (arith, ints, c.from-scale.ensures, c.requires) in
    let is : c.div_euclid.result ≡ int_div_euclid (value +ℤ pos 1023) (pos 1024) = rw (more, scale) at c.div_euclid.ensures in
    let same : to_z w128 (of_z w128 c.div_euclid.result) ≡ c.div_euclid.result = omega (arith, ints, c.div_euclid.type_inv) in
    rw (same, is) (ceiling_is value)
