-- A set of 8 bits is below 2 ^ 8.
use Rattle.std.proofs.Common.{◌≤◌, ◌^◌, arith, refl, pow_mono}
use Rattle.ct_base.proofs.validity.signal.is_set_of_phases.Goals as goal

pub returns-else-phases-lt8 : goal.returns-else-phases-lt8
returns-else-phases-lt8 c =
    let enough : 2 ^ 8 ≤ 2 ^ c.args.phases = pow_mono c.if-phases-lt8.false in
    (λ _. omega (arith, c.ranges.set.fits), λ _. refl)
