use Rattle.std.proofs.Common.{◌≡◌, ap, ◌∙◌, sym}
use Rattle.traffic_model.specs.Delay.{letters_at}
use Rattle.cell_replay.proofs.Adding.{begins, goes_on, long_enough}
use Rattle.cell_replay.proofs.Noting.{one_step_more, trace_of-zero}
use Rattle.cell_replay.proofs.lines.trace.Goals as goal

pub loop-step-init : goal.loop-step-init
loop-step-init c = record {
  run = begins c.args.net.now (letters_at c.args.plan.now.words) c.in_ok-replay.replay c.in_ok-replay.ensures.stands c.in_ok-replay.ensures.value;
  lines = c.in_ok-lines.ensures.items ∙ sym (trace_of-zero c.args.net.now.cells (letters_at c.args.plan.now.words));
  held = c.in_ok-held.ensures.len ∙ c.len-cells.ensures;
  letters = c.in_ok-letters.ensures.len ∙ c.len.ensures;
}

pub show-requires-clause-shown : goal.show-requires-clause-shown
show-requires-clause-shown c = rw c.as_slice.ensures (long_enough c.args.net.now c.args.plan.now c.loop-step.step c.requires.words c.loop-step-test.true)

pub loop-step-preserved : goal.loop-step-preserved
loop-step-preserved c =
    let shows : c.show.new.letters ≡ letters_at c.args.plan.now.words c.loop-step.step = c.show.ensures ∙ ap (λ words. letters_at words c.loop-step.step) c.as_slice.ensures in
    record {
      run =
          goes_on c.args.net.now (letters_at c.args.plan.now.words) c.loop-step.step c.loop-step.replay c.add_step.new.replay c.show.new.letters c.loop-step.invariant.run shows
          c.in_ok-add_step.ensures.moves c.in_ok-add_step.ensures.stands;
      lines =
          one_step_more c.args.net.now (letters_at c.args.plan.now.words) c.loop-step.step c.loop-step.replay c.loop-step.lines.items c.add_step.new.lines.items c.show.new.letters
          c.loop-step.invariant.run shows c.loop-step.invariant.lines c.in_ok-add_step.ensures.lines;
      held = c.loop-step.invariant.held;
      letters = c.loop-step.invariant.letters;
    }
