use Rattle.std.proofs.Common.{◌+◌, ◌-◌, [], ◌∷◌, arith}
use Rattle.std.specs.Prelude.{nat_lt, if◌then◌else◌}
use Rattle.program_model.specs.RuleRows.{stay_row}
use Rattle.lo_program.proofs.RowLaws.{adds_no_part, adds_part, fits_part}
use Rattle.lo_program.proofs.FrontLaws.{front_exit, front_part}
use Rattle.lo_program.proofs.rules.lasting.add_stay_rows.Goals as goal

pub loop-j-init : goal.loop-j-init
loop-j-init c = adds_no_part c.args.net.now c.args.builder.now (λ j. if nat_lt (c.args.t + (j + 1)) c.args.net.now.steps then stay_row c.args.bits.now.signal c.args.t c.args.letter (j + 1) ∷ [] else [])

pub add_stay_row_within-requires-clause-fits : goal.add_stay_row_within-requires-clause-fits
add_stay_row_within-requires-clause-fits c =
    fits_part c.args.net.now c.args.builder.now c.loop-j.builder (c.args.least - 1) c.loop-j.j (λ j. if nat_lt (c.args.t + (j + 1)) c.args.net.now.steps then stay_row c.args.bits.now.signal c.args.t c.args.letter (j + 1) ∷ [] else []) c.requires.fits (omega (arith, c.loop-j-test.true, c.saturating_sub-j-end.ensures)) c.loop-j.invariant

pub loop-j-preserved : goal.loop-j-preserved
loop-j-preserved c = adds_part c.args.net.now c.args.builder.now c.loop-j.builder c.add_stay_row_within.new.builder c.loop-j.j (λ j. if nat_lt (c.args.t + (j + 1)) c.args.net.now.steps then stay_row c.args.bits.now.signal c.args.t c.args.letter (j + 1) ∷ [] else []) c.loop-j.invariant c.in_ok-add_stay_row_within.ensures

pub returns-in_err-add_stay_row_within : goal.returns-in_err-add_stay_row_within
returns-in_err-add_stay_row_within c =
    front_exit _ c.from_residual.result c.from_residual.ensures.1
    (front_part c.args.net.now c.args.builder.now c.loop-j.builder c.add_stay_row_within.new.builder (c.args.least - 1) c.loop-j.j (λ j. if nat_lt (c.args.t + (j + 1)) c.args.net.now.steps then stay_row c.args.bits.now.signal c.args.t c.args.letter (j + 1) ∷ [] else [])
    (omega (arith, c.loop-j-test.true, c.saturating_sub-j-end.ensures)) c.loop-j.invariant c.in_err-add_stay_row_within.ensures)
