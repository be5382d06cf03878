use Rattle.std.proofs.Common.{arith}
use Rattle.program_model.specs.Columns.{Switch}
use Rattle.program_columns.proofs.BuildingLaws.{length-table, table_begins, table_grows}
use Rattle.program_columns.proofs.columns.cell.add_switches.Goals as goal

pub loop-m-init : goal.loop-m-init
loop-m-init c = table_begins c.args.net.now c.args.builder.now (Switch c.args.t c.args.i)

pub add-requires-clause-room : goal.add-requires-clause-room
add-requires-clause-room c =
    omega (arith, length-table c.args.net.now c.args.builder.now c.loop-m.builder c.loop-m._m (Switch c.args.t c.args.i) c.loop-m.invariant, c.requires, c.loop-m-test.true)

pub loop-m-preserved : goal.loop-m-preserved
loop-m-preserved c =
    table_grows c.args.net.now c.args.builder.now c.loop-m.builder c.add.new.builder c.loop-m._m (Switch c.args.t c.args.i) c.loop-m.invariant c.in_ok-add.ensures.ok
