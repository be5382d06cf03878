use Rattle.std.proofs.Common.{◌≡◌, arith}
use Rattle.std.specs.Int.{w128}
use Rattle.std.specs.Prelude.{FitsSigned}
use Rattle.std.proofs.lemmas.Int.{ints, to_z-of_z}
use Rattle.certificate_model.specs.Value.{column_value}
use Rattle.kept_value.proofs.charged.rise.Goals as goal

pub returns-clause-value : goal.returns-clause-value
returns-clause-value c =
    let after : FitsSigned w128 c.args.after = c.ranges.after in
    let before : FitsSigned w128 c.args.before = c.ranges.before in
    let now : c.column_value.result ≡ column_value c.args.bounds.now c.args.after c.args.j = simp to_z-of_z at c.column_value.ensures.value in
    let old : c.column_value-2.result ≡ column_value c.args.bounds.now c.args.before c.args.j = simp to_z-of_z at c.column_value-2.ensures.value in
    omega (arith, ints, now, old, c.column_value.ensures.small, c.column_value-2.ensures.small)
