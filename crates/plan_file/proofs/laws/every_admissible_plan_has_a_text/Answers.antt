-- The text of its own runs.
use Rattle.plan_file.proofs.WriteLaws.{has_text}
use Rattle.plan_file.proofs.laws.every_admissible_plan_has_a_text.Goals as goal

pub returns : goal.returns
returns c = λ plan admissible. has_text c.args.named.now plan c.names-names.ensures.fits admissible
