use Rattle.std.proofs.Common.{arith}
use Rattle.solve_core.proofs.TurnLaws.{plan_columns_are}
use Rattle.solve_core.proofs.running.plan_columns.Goals as goal

-- src/running.rt
pub returns : goal.returns
returns c = omega (arith, c.plan_cols.ensures.value, plan_columns_are c.args.net.now c.args.program.now c.requires.program_is)
