use Rattle.std.proofs.Common.{◌≡◌, ◌+◌, ◌<◌, sum, ap, ◌∙◌, sym, arith}
use Rattle.traffic_model.proofs.TrafficLaws.{delay_of-zero}
use Rattle.traffic_model.specs.Delay.{delay_of, left_of, letters_at}
use Rattle.cell_replay.proofs.Adding.{adds, begins, goes_on, is_small, leaves, long_enough}
use Rattle.cell_replay.proofs.whole_plan.totals_of.Goals as goal

pub loop-step-init : goal.loop-step-init
loop-step-init c = record {
  run = begins c.args.net.now (letters_at c.args.plan.now.words) c.in_ok-replay.replay c.in_ok-replay.ensures.stands c.in_ok-replay.ensures.value;
  delay = sym (delay_of-zero c.args.net.now.cells (letters_at c.args.plan.now.words));
  letters = c.in_ok-letters.ensures.len ∙ c.len.ensures;
}

pub show-requires-clause-shown : goal.show-requires-clause-shown
show-requires-clause-shown c =
    let before : c.loop-step.step < c.args.net.now.steps = omega (arith, c.requires.within) in
    rw c.as_slice.ensures (long_enough c.args.net.now c.args.plan.now c.loop-step.step c.requires.words before)

added : (c : goal.After-struct_known-1) → c.loop-step.delay + c.step-delay.result.units ≡ delay_of c.args.net.now.cells (letters_at c.args.plan.now.words) (c.loop-step.step + 1)
added c =
    adds c.args.net.now (letters_at c.args.plan.now.words) c.loop-step.step c.loop-step.replay c.loop-step.delay c.step-delay.result.units c.show.new.letters c.loop-step.invariant.run
    (c.show.ensures ∙ ap (λ words. letters_at words c.loop-step.step) c.as_slice.ensures) c.step-delay.ensures.delay c.loop-step.invariant.delay

pub overflow_add-delay : goal.overflow_add-delay
overflow_add-delay c =
    omega (
      arith,
      is_small c.args.net.now (letters_at c.args.plan.now.words) (c.loop-step.step + 1) (c.loop-step.delay + c.step-delay.result.units) c.requires.valid
          (omega (arith, c.requires.within)) (added c),
    )

pub loop-step-preserved : goal.loop-step-preserved
loop-step-preserved c = record {
  run =
      goes_on c.args.net.now (letters_at c.args.plan.now.words) c.loop-step.step c.loop-step.replay c.step-delay.new.self c.show.new.letters c.loop-step.invariant.run
      (c.show.ensures ∙ ap (λ words. letters_at words c.loop-step.step) c.as_slice.ensures) c.step-delay.ensures.moves c.step-delay.ensures.stands;
  delay = added c;
  letters = c.loop-step.invariant.letters;
}

pub returns-clause-left : goal.returns-clause-left
returns-clause-left c =
    let here : sum c.loop-step.replay.units ≡ left_of c.args.net.now.cells (letters_at c.args.plan.now.words) c.args.steps =
    leaves c.args.net.now (letters_at c.args.plan.now.words) c.loop-step.step c.loop-step.replay c.args.steps c.loop-step.invariant.run (omega arith) in
    cc
