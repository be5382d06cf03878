use Rattle.std.proofs.Common.{arith, length}
use Rattle.ct_base.specs.Access.{phase_of, signal_of}
use Rattle.ct_base.specs.declared.plan.Letter.TheVariants.{Green}
use Rattle.program_model.specs.RuleRows.{stay_rows}
use Rattle.lo_program.proofs.RowLaws.{adds_no_part, adds_part, fits_part}
use Rattle.lo_program.proofs.FrontLaws.{front_exit, front_part}
use Rattle.lo_program.proofs.rules.add_green_stay_rows.Goals as goal

pub loop-p-init : goal.loop-p-init
loop-p-init c = adds_no_part c.args.net.now c.args.builder.now (λ p. stay_rows c.args.net.now.steps c.args.bits.now.signal c.args.t (Green p) (phase_of (signal_of c.args.net.now.signals c.args.bits.now.signal) p).min)

pub add_stay_rows-requires-clause-fits : goal.add_stay_rows-requires-clause-fits
add_stay_rows-requires-clause-fits c =
    rw c.phase-phase.ensures.value
    (fits_part c.args.net.now c.args.builder.now c.loop-p.builder (length (signal_of c.args.net.now.signals c.args.bits.now.signal).phases) c.loop-p.p (λ p. stay_rows c.args.net.now.steps c.args.bits.now.signal c.args.t (Green p) (phase_of (signal_of c.args.net.now.signals c.args.bits.now.signal) p).min)
    c.requires.fits (omega (arith, c.loop-p-test.true, c.phases-p-end.ensures)) c.loop-p.invariant)

pub loop-p-preserved : goal.loop-p-preserved
loop-p-preserved c =
    adds_part c.args.net.now c.args.builder.now c.loop-p.builder c.add_stay_rows.new.builder c.loop-p.p (λ p. stay_rows c.args.net.now.steps c.args.bits.now.signal c.args.t (Green p) (phase_of (signal_of c.args.net.now.signals c.args.bits.now.signal) p).min)
    c.loop-p.invariant (rw c.phase-phase.ensures.value at c.in_ok-add_stay_rows.ensures)

pub returns-in_err-add_stay_rows : goal.returns-in_err-add_stay_rows
returns-in_err-add_stay_rows c =
    front_exit _ c.from_residual.result c.from_residual.ensures.1
    (front_part c.args.net.now c.args.builder.now c.loop-p.builder c.add_stay_rows.new.builder (length (signal_of c.args.net.now.signals c.args.bits.now.signal).phases) c.loop-p.p (λ p. stay_rows c.args.net.now.steps c.args.bits.now.signal c.args.t (Green p) (phase_of (signal_of c.args.net.now.signals c.args.bits.now.signal) p).min)
    (omega (arith, c.loop-p-test.true, c.phases-p-end.ensures)) c.loop-p.invariant (rw c.phase-phase.ensures.value at c.in_err-add_stay_rows.ensures))
