use Rattle.std.proofs.Common.{rules, length, ◌≡◌}
use Rattle.lo_program.proofs.RowLaws.{adds_no_part, adds_part, fits_part}
use Rattle.lo_program.proofs.StepLaws.{rows_of_signal, rules_added, rules_fit, rules_front}
use Rattle.lo_program.proofs.FrontLaws.{front_exit, front_part}
use Rattle.lo_program.proofs.rules.add_rule_rows.Goals as goal

pub loop-signal-init : goal.loop-signal-init
loop-signal-init c = adds_no_part c.args.net.now c.args.builder.now (rows_of_signal c.args.net.now)

pub add_rows_of_signal-requires-clause-fits : goal.add_rows_of_signal-requires-clause-fits
add_rows_of_signal-requires-clause-fits c =
    fits_part c.args.net.now c.args.builder.now c.loop-signal.builder (length c.args.net.now.signals) c.loop-signal.signal (rows_of_signal c.args.net.now)
    (rules_fit c.args.net.now c.args.builder.now c.requires.plan c.requires.few) (search (rules, c.loop-signal-test.true)) c.loop-signal.invariant

pub loop-signal-preserved : goal.loop-signal-preserved
loop-signal-preserved c =
    adds_part c.args.net.now c.args.builder.now c.loop-signal.builder c.add_rows_of_signal.new.builder c.loop-signal.signal (rows_of_signal c.args.net.now) c.loop-signal.invariant c.in_ok-add_rows_of_signal.ensures

pub returns : goal.returns
returns c =
    let all : c.loop-signal.signal ≡ length c.args.net.now.signals = search (rules, c.loop-signal-test.false, c.loop-signal.auto.signal-end) in
    rules_added c.args.net.now c.args.builder.now c.loop-signal.builder c.loop-signal.signal all c.loop-signal.invariant

pub returns-in_err-add_rows_of_signal : goal.returns-in_err-add_rows_of_signal
returns-in_err-add_rows_of_signal c =
    front_exit _ c.from_residual.result c.from_residual.ensures.1
    (rules_front c.args.net.now c.args.builder.now c.add_rows_of_signal.new.builder
    (front_part c.args.net.now c.args.builder.now c.loop-signal.builder c.add_rows_of_signal.new.builder (length c.args.net.now.signals) c.loop-signal.signal (rows_of_signal c.args.net.now)
    (search (rules, c.loop-signal-test.true)) c.loop-signal.invariant c.in_err-add_rows_of_signal.ensures))
