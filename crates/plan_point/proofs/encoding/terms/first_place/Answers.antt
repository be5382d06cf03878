use Rattle.std.proofs.Common.{arith}
use Rattle.plan_point.proofs.EncodingLaws.{first_place_is, no_place_is}
use Rattle.plan_point.proofs.encoding.terms.first_place.Goals as goal

pub returns-then-term-least : goal.returns-then-term-least
returns-then-term-least c =
    first_place_is c.args.terms.now c.args.least c.loop-place.place c.loop-place-test.true c.loop-place.invariant c.if-term-least.true

pub returns : goal.returns
returns c =
    no_place_is c.args.terms.now c.args.least (λ k below. c.loop-place.invariant k (omega arith))
