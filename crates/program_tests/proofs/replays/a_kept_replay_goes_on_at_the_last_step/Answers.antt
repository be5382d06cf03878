use Rattle.cell_replay.proofs.Keeping.{keeps_agree}
use Rattle.program_tests.proofs.replays.a_kept_replay_goes_on_at_the_last_step.Goals as goal

pub replay-requires-clause-kept : goal.replay-requires-clause-kept
replay-requires-clause-kept g c =
    keeps_agree c.in_ok-net.net c.in_ok-at_last.at_last c.in_ok-never.never c.first_change-first.result c.in_ok-kept.kept c.in_ok-kept.ensures
    c.first_change-first.ensures.within c.first_change-first.ensures.same
