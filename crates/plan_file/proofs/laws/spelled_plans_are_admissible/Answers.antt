-- Runs that become a word make it admissible.
use Rattle.plan_file.proofs.SpellLaws.{spells_admissible}
use Rattle.plan_file.proofs.laws.spelled_plans_are_admissible.Goals as goal

pub returns : goal.returns
returns c = λ text plan spells. spells_admissible c.args.named.now text plan c.names-names.ensures.fits spells
