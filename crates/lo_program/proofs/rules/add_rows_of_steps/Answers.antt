use Rattle.ct_base.specs.Access.{signal_of}
use Rattle.program_model.specs.RuleRows.{rule_rows_at}
use Rattle.lo_program.proofs.RowLaws.{adds_no_part, adds_part, fits_part}
use Rattle.lo_program.proofs.FrontLaws.{front_exit, front_part}
use Rattle.lo_program.proofs.rules.add_rows_of_steps.Goals as goal

pub loop-t-init : goal.loop-t-init
loop-t-init c = adds_no_part c.args.net.now c.args.builder.now (rule_rows_at (signal_of c.args.net.now.signals c.args.bits.now.signal) c.args.net.now.steps c.args.bits.now.signal)

pub add_rows_of_step-requires-clause-fits : goal.add_rows_of_step-requires-clause-fits
add_rows_of_step-requires-clause-fits c =
    fits_part c.args.net.now c.args.builder.now c.loop-t.builder c.args.net.now.steps c.loop-t.t (rule_rows_at (signal_of c.args.net.now.signals c.args.bits.now.signal) c.args.net.now.steps c.args.bits.now.signal) c.requires.fits c.loop-t-test.true c.loop-t.invariant

pub loop-t-preserved : goal.loop-t-preserved
loop-t-preserved c = adds_part c.args.net.now c.args.builder.now c.loop-t.builder c.add_rows_of_step.new.builder c.loop-t.t (rule_rows_at (signal_of c.args.net.now.signals c.args.bits.now.signal) c.args.net.now.steps c.args.bits.now.signal) c.loop-t.invariant c.in_ok-add_rows_of_step.ensures

pub returns-in_err-add_rows_of_step : goal.returns-in_err-add_rows_of_step
returns-in_err-add_rows_of_step c =
    front_exit _ c.from_residual.result c.from_residual.ensures.1
    (front_part c.args.net.now c.args.builder.now c.loop-t.builder c.add_rows_of_step.new.builder c.args.net.now.steps c.loop-t.t (rule_rows_at (signal_of c.args.net.now.signals c.args.bits.now.signal) c.args.net.now.steps c.args.bits.now.signal) c.loop-t-test.true c.loop-t.invariant c.in_err-add_rows_of_step.ensures)
