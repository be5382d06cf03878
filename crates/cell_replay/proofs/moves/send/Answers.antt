use Rattle.std.proofs.Common.{◌≡◌, ◌+◌, ◌-◌, length, slice_index, ap, ◌∙◌, sym, arith}
use Rattle.std.proofs.lemmas.Grind.{common_steps}
use Rattle.listed.proofs.SumLaws.{sum_below-zero, sum_below-suc}
use Rattle.listed.proofs.TableLaws.{fill}
use Rattle.listed.specs.Below.{sum_below}
use Rattle.traffic_model.specs.Delay.{cell_delay, step_delay}
use Rattle.traffic_model.specs.Flow.{outflow}
use Rattle.cell_replay.proofs.moves.send.Goals as goal

pub loop-number-init : goal.loop-number-init
loop-number-init c = record {
  each = λ i below. absurd (omega arith);
  delay = sym (sum_below-zero (λ i. cell_delay c.args.cells.now c.args.letters.now c.args.units.now i));
  small = omega arith;
}

pub loop-number-preserved : goal.loop-number-preserved
loop-number-preserved c = record {
  each = grind (arith, common_steps, c.loop-number.invariant.each);
  delay =
      let more : sum_below (c.loop-number.number + 1) (λ i. cell_delay c.args.cells.now c.args.letters.now c.args.units.now i)
      ≡ c.loop-number.delay + (slice_index c.args.units.now c.loop-number.number - c.units_leaving-leaving.result) =
      sum_below-suc c.loop-number.number (λ i. cell_delay c.args.cells.now c.args.letters.now c.args.units.now i)
      ∙ omega (arith, c.loop-number.invariant.delay, c.units_leaving-leaving.ensures.value) in
      omega (arith, more, c.from-delay.ensures);
  small = omega (arith, c.type_inv.units c.loop-number.number, c.from-delay.ensures);
}

pub returns-clause-outflows : goal.returns-clause-outflows
returns-clause-outflows c =
    fill c.loop-number.outflows (length c.args.cells.now) (outflow c.args.cells.now c.args.letters.now c.args.units.now) (omega arith)
    (λ i below. c.loop-number.invariant.each i (omega arith))

pub returns-clause-delay : goal.returns-clause-delay
unfolding step_delay
returns-clause-delay c =
    let all : c.loop-number.number ≡ length c.args.cells.now = omega arith in
    c.loop-number.invariant.delay ∙ ap (λ n. sum_below n (λ i. cell_delay c.args.cells.now c.args.letters.now c.args.units.now i)) all
