use Rattle.std.proofs.Common.{◌≤◌, arith}
use Rattle.solve_core.proofs.SearchLaws.{found_better, lesser_delay}
use Rattle.solve_core.proofs.search.Search.take.Goals as goal

-- src/search.rt
pub returns-then-plan-self-clause-searching : goal.returns-then-plan-self-clause-searching
returns-then-plan-self-clause-searching c =
    let net = c.args.net.now in
    let old = c.args.self.now in
    let kept = c.requires.searching in
    let less : c.args.plan.delay ≤ old.best.delay = omega (arith, c.if-plan-self.true) in
    let lesser = lesser_delay c.args.plan.delay old.best.delay less in
    record {
      grown = c.lesser_delays_keep_the_tree.ensures.tree net c.args.budget _ _ old.least old.tree kept.grown lesser;
      reached = c.lesser_delays_keep_the_tree.ensures.reached net c.args.budget _ _ _ old.least kept.reached lesser;
      stands = record {
        there = kept.stands.there;
        kept_of = kept.stands.kept_of;
        kept_box = kept.stands.kept_box;
        costed_of = kept.stands.costed_of;
        costed_box = kept.stands.costed_box;
      };
      found = found_better net c.args.plan old.best.delay c.requires.plan less kept.found.named;
    }
