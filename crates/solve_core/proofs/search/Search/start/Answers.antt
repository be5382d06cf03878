use Rattle.std.proofs.Common.{arith, refl, ◌∙◌}
use Rattle.traffic_model.specs.Delay.{letters_at}
use Rattle.solve_core.proofs.StartLaws.{begun_as, begun_is, started, still_small}
use Rattle.solve_core.proofs.search.Search.start.Goals as goal

-- src/search.rt
pub returns : goal.returns
returns c =
    let net = c.args.net.now in
    let tree = begun_is net c.args.program.now c.in_ok-new.field-0 c.in_ok-tree.tree c.requires.task.program_is c.in_ok-new.ensures c.in_ok-tree.ensures in
    let small = still_small _ _ c.in_ok-best.ensures.of.delay
    (c.delays_are_small.ensures net (letters_at c.in_ok-best.best.plan.words) net.steps c.requires.task.valid (omega arith)) in
    record {
      searching = started net c.args.program.now c.args.budget _ c.requires.task (begun_as _ _ _ c.in_ok-new.ensures c.in_ok-tree.ensures)
          (c.searches_begin.ensures net c.args.budget _ c.in_ok-tree.tree c.is_growing.ensures tree c.requires.task.some) refl (c.in_ok-kept.ensures.ranges ∙ c.in_ok-new-2.ensures) c.in_ok-kept.ensures.of
          c.in_ok-costed.ensures.ranges c.in_ok-costed.ensures.of c.in_ok-best.ensures.of small c.in_ok-best.ensures.short c.in_ok-best.ensures.long refl;
      seed = c.in_ok-kept.ensures.prices ∙ c.in_ok-seed.ensures.value;
    }
