use Rattle.cell_replay.proofs.Keeping.{keeps_agree}
use Rattle.cell_replay.proofs.laws.kept_steps_serve_plans_that_agree.Goals as goal

pub returns : goal.returns
returns c = keeps_agree
