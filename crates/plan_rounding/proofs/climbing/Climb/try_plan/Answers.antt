use Rattle.cell_replay.proofs.Keeping.{keeps_agree}
use Rattle.plan_rounding.proofs.climbing.Climb.try_plan.Goals as goal

pub replay-requires-clause-kept : goal.replay-requires-clause-kept
replay-requires-clause-kept c =
    keeps_agree c.args.net.now c.args.self.now.tried c.args.plan c.first_change-first.result c.args.self.now.replay c.requires.of.keeps
    c.first_change-first.ensures.within c.first_change-first.ensures.same
