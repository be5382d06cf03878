use Rattle.std.proofs.Common.{length, refl, rules}
use Rattle.plan_point.proofs.EncodingLaws.{move_added}
use Rattle.plan_point.proofs.encoding.cells.push_move.Goals as goal

pub returns : goal.returns
returns c =
    move_added c.args.values.now.items c.push.new.self.items c.push_switches.new.values.items c.args.terms.now c.least-flow.result c.first_place.result (length c.args.terms.now)
    c.least-flow.ensures c.first_place.ensures refl (search rules) c.in_ok-push_switches.ensures
