use Rattle.std.proofs.Common.{arith}
use Rattle.sparse_program.specs.declared.limits.TheConstants.{MAX_COLUMNS}
use Rattle.program_model.specs.Columns.{bits_at, plan_columns}
use Rattle.program_columns.proofs.BuildingLaws.{parts_begin, parts_end, parts_fit, parts_more}
use Rattle.program_columns.proofs.FrontLaws.{front_exit, front_part}
use Rattle.program_columns.proofs.columns.bits.add_bits.Goals as goal

pub loop-t-init : goal.loop-t-init
loop-t-init c = parts_begin c.args.net.now c.args.builder.now (bits_at c.args.net.now.signals)

pub add_bits_at-requires-clause-room : goal.add_bits_at-requires-clause-room
unfolding plan_columns
add_bits_at-requires-clause-room c =
    parts_fit c.args.net.now c.args.builder.now c.loop-t.builder c.args.net.now.steps c.loop-t.t MAX_COLUMNS (bits_at c.args.net.now.signals) c.loop-t.invariant (omega arith) c.requires.room

pub loop-t-preserved : goal.loop-t-preserved
loop-t-preserved c =
    parts_more c.args.net.now c.args.builder.now c.loop-t.builder c.add_bits_at.new.builder c.loop-t.t (bits_at c.args.net.now.signals) c.loop-t.invariant c.in_ok-add_bits_at.ensures

pub returns : goal.returns
unfolding plan_columns
returns c = parts_end c.args.net.now c.args.builder.now c.loop-t.builder c.args.net.now.steps c.loop-t.t (bits_at c.args.net.now.signals) c.loop-t.invariant (omega arith)

pub returns-in_err-add_bits_at : goal.returns-in_err-add_bits_at
unfolding plan_columns
returns-in_err-add_bits_at c =
    front_exit _ c.from_residual.result c.from_residual.ensures.1
    (front_part c.args.net.now c.args.builder.now c.loop-t.builder c.add_bits_at.new.builder c.args.net.now.steps c.loop-t.t (bits_at c.args.net.now.signals) (omega arith) c.loop-t.invariant c.in_err-add_bits_at.ensures)
