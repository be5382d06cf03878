use Rattle.std.proofs.Common.{◌≡◌, ◌*◌, length, arith}
use Rattle.std.specs.Int.{w128}
use Rattle.std.specs.Prelude.{pos, ◌+ℤ◌, ◌*ℤ◌}
use Rattle.std.proofs.lemmas.Int.{ints, to_z-of_z}
use mir.Val.{of_z, to_z}
use Rattle.certificate_model.specs.Value.{scale}
use Rattle.dual_prices.proofs.ascent.climb.Goals as goal

pub returns-in-Err-clause-end : goal.returns-in-Err-clause-end
returns-in-Err-clause-end c =
    let limit : to_z w128 (of_z w128 (to_z w128 (of_z w128 c.value.result) +ℤ to_z w128 (of_z w128 (pos 1024 *ℤ to_z w128 c.rows.result)))) ≡ c.args.kept.now.value +ℤ pos (scale * length c.args.program.now.rows) =
    omega (arith, ints, c.value.ensures.value, c.value.ensures.small, c.rows.ensures.value, c.rows.ensures.few) in
    rw c.in-Err.ensures.err (rw (to_z-of_z w128 c.args.enough c.ranges.enough, limit) at c.in-Err.ensures.end)
