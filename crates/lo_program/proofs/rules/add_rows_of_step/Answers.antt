use Rattle.ct_base.specs.Access.{signal_of}
use Rattle.std.proofs.Common.{arith}
use Rattle.lo_program.specs.inner.Kinds.{rows_at}
use Rattle.lo_program.proofs.FrontLaws.{front_exit, front_part}
use Rattle.lo_program.proofs.RowLaws.{adds_no_part, adds_part, fits_part}
use Rattle.lo_program.proofs.StepLaws.{kinds_added, kinds_fit, kinds_front}
use Rattle.lo_program.proofs.rules.add_rows_of_step.Goals as goal

pub loop-kind-init : goal.loop-kind-init
loop-kind-init c = adds_no_part c.args.net.now c.args.builder.now (rows_at (signal_of c.args.net.now.signals c.args.bits.now.signal) c.args.net.now.steps c.args.bits.now.signal c.args.t)

pub add_rows_of_kind-requires-clause-fits : goal.add_rows_of_kind-requires-clause-fits
add_rows_of_kind-requires-clause-fits c =
    fits_part c.args.net.now c.args.builder.now c.loop-kind.builder 6 c.loop-kind.kind-index (rows_at (signal_of c.args.net.now.signals c.args.bits.now.signal) c.args.net.now.steps c.args.bits.now.signal c.args.t)
    (kinds_fit c.args.net.now c.args.builder.now (signal_of c.args.net.now.signals c.args.bits.now.signal) c.args.net.now.steps c.args.bits.now.signal c.args.t c.requires.fits) (omega (arith, c.loop-kind-test.true)) c.loop-kind.invariant

pub loop-kind-preserved : goal.loop-kind-preserved
loop-kind-preserved c =
    adds_part c.args.net.now c.args.builder.now c.loop-kind.builder c.add_rows_of_kind.new.builder c.loop-kind.kind-index (rows_at (signal_of c.args.net.now.signals c.args.bits.now.signal) c.args.net.now.steps c.args.bits.now.signal c.args.t)
    c.loop-kind.invariant c.in_ok-add_rows_of_kind.ensures

pub returns-in_err-add_rows_of_kind : goal.returns-in_err-add_rows_of_kind
returns-in_err-add_rows_of_kind c =
    front_exit _ c.from_residual.result c.from_residual.ensures.1
    (kinds_front c.args.net.now c.args.builder.now c.add_rows_of_kind.new.builder (signal_of c.args.net.now.signals c.args.bits.now.signal) c.args.net.now.steps c.args.bits.now.signal c.args.t
    (front_part c.args.net.now c.args.builder.now c.loop-kind.builder c.add_rows_of_kind.new.builder 6 c.loop-kind.kind-index (rows_at (signal_of c.args.net.now.signals c.args.bits.now.signal) c.args.net.now.steps c.args.bits.now.signal c.args.t)
    (omega (arith, c.loop-kind-test.true)) c.loop-kind.invariant c.in_err-add_rows_of_kind.ensures))

pub returns : goal.returns
returns c = kinds_added c.args.net.now c.args.builder.now c.loop-kind.builder (signal_of c.args.net.now.signals c.args.bits.now.signal) c.args.net.now.steps c.args.bits.now.signal c.args.t c.loop-kind.kind-index (omega (arith, c.loop-kind-test.false)) c.loop-kind.invariant
