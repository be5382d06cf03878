use Rattle.std.proofs.Common.{◌≡◌, ◌+◌, ◌/◌, refl, arith}
use Rattle.dual_prices.proofs.turn.turn_of.Goals as goal

pub loop-low-preserved-then-rises_to : goal.loop-low-preserved-then-rises_to
loop-low-preserved-then-rises_to c = record {
  order = omega arith;
  few = omega arith;
  before = λ k next. let is : k ≡ (c.loop-low.low + c.loop-low.high) / 2 = omega (arith, next) in rw is (c.if-rises_to.ensures.yes refl);
  after = c.loop-low.invariant.after;
}
