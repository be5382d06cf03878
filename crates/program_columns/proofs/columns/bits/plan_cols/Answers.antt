use Rattle.std.proofs.Common.{◌≡◌, length, refl, ap, arith, List}
use Rattle.sparse_program.specs.declared.column.Col.{Col}
use Rattle.program_model.proofs.NumberLaws.{length-plan_columns}
use Rattle.program_layout.proofs.CountLaws.{small_plan}
use Rattle.program_model.specs.Columns.{plan_columns}
use Rattle.program_columns.proofs.FrontLaws.{counted_on_err, front_none}
use Rattle.program_columns.proofs.columns.bits.plan_cols.Goals as goal

pub add_bits-requires-clause-room : goal.add_bits-requires-clause-room
add_bits-requires-clause-room c =
    let none : length c.args.into.now.columns ≡ 0 = ap (λ (columns : List Col). length columns) c.requires.none in
    omega (arith, none, length-plan_columns c.args.net.now, small_plan c.args.net.now c.requires.valid)

pub returns-in_err-layout-clause-front : goal.returns-in_err-layout-clause-front
returns-in_err-layout-clause-front c =
    counted_on_err c.from_residual.result c.args.net.now c.args.into.now c.args.into.now (plan_columns c.args.net.now) (front_none c.args.net.now c.args.into.now c.args.into.now (plan_columns c.args.net.now) refl)

pub returns-in_err-add_bits-clause-front : goal.returns-in_err-add_bits-clause-front
returns-in_err-add_bits-clause-front c =
    counted_on_err c.from_residual-in_err-add_bits.result c.args.net.now c.args.into.now c.add_bits.new.builder (plan_columns c.args.net.now) c.in_err-add_bits.ensures
