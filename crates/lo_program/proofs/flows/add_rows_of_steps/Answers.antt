use Rattle.std.proofs.Common.{arith, ◌∙◌}
use Rattle.listed.specs.Below.{join_below}
use Rattle.lo_program.specs.inner.Floors.{rows_of_step}
use Rattle.lo_program.proofs.RowLaws.{adds_no_part, adds_part, fits_part, same_columns}
use Rattle.lo_program.proofs.flows.add_rows_of_steps.Goals as goal

pub loop-t-init : goal.loop-t-init
loop-t-init c = record {
  added = adds_no_part c.args.net.now c.args.builder.now (rows_of_step c.args.net.now);
  arrived = c.in_ok-arrived.ensures;
}

pub add_rows_of_step-requires-clause-fits : goal.add_rows_of_step-requires-clause-fits
add_rows_of_step-requires-clause-fits c =
    fits_part c.args.net.now c.args.builder.now c.loop-t.builder c.args.net.now.steps c.loop-t.t (rows_of_step c.args.net.now) c.requires.fits (omega (arith, c.loop-t-test.true)) c.loop-t.invariant.added

pub add_rows_of_step-requires-clause-all_columns : goal.add_rows_of_step-requires-clause-all_columns
add_rows_of_step-requires-clause-all_columns c =
    same_columns c.args.net.now c.args.builder.now c.loop-t.builder (join_below c.loop-t.t (rows_of_step c.args.net.now)) c.loop-t.invariant.added ∙ c.requires.all_columns

pub loop-t-preserved : goal.loop-t-preserved
loop-t-preserved c = record {
  added = adds_part c.args.net.now c.args.builder.now c.loop-t.builder c.add_rows_of_step.new.builder c.loop-t.t (rows_of_step c.args.net.now) c.loop-t.invariant.added c.in_ok-add_rows_of_step.ensures;
  arrived = c.in_ok-arrived-2.ensures;
}
