use Rattle.std.proofs.Common.{arith}
use Rattle.std.specs.Prelude.{pos}
use Rattle.std.proofs.lemmas.Int.{ints}
use Rattle.solve_core.proofs.PriceLaws.{worked_by}
use Rattle.solve_core.proofs.pricing.raise.Goals as goal

pub returns-clause-worked : goal.returns-clause-worked
returns-clause-worked c =
    let ensures = c.in_ok-work.ensures in
    worked_by c.args.net.now c.args.program.now (pos c.args.delay) c.args.kept.now.value _ c.work.new.kept c.in_ok-work.field-0 c.requires.program ensures.of (rw ensures.ranges c.requires.above) ensures.rises
    (omega (arith, ints, c.enough_for.ensures, c.ranges.delay)) ensures.enough.0 ensures.settled ensures.spent
