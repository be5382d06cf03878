-- What a climb keeps from change to change.
use Rattle.std.specs.Prelude.{◌≡◌}
use Rattle.ct_base.specs.declared.net.Net.{Net}
use Rattle.cell_replay.specs.Keeps.{Keeps}
use Rattle.traffic_model.specs.Runs.{HasWords, IsAdmissiblePlan}
use Rattle.plan_rounding.specs.Replayed.{delay_in}
use Rattle.plan_rounding.specs.declared.climbing.Climb.{Climb}

-- the best plan is admissible and has its delay, and the replay is that of the plan that was tried last
pub record IsClimb (net : Net) (climb : Climb) : Type 0 where
  pub admissible : IsAdmissiblePlan net climb.best
  pub delay : climb.delay ≡ delay_in net climb.best
  pub words : HasWords net climb.tried
  pub keeps : Keeps net climb.tried climb.replay
