-- Runs that become one word are the same, and so are their lines.
use Rattle.plan_file.proofs.SpellLaws.{one_text}
use Rattle.plan_file.proofs.laws.has_one_text.Goals as goal

pub returns : goal.returns
returns c = λ text other plan spells also. one_text c.args.named.now text other plan c.names-names.ensures.fits spells also
