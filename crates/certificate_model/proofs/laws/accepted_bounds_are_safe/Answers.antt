use Rattle.certificate_model.proofs.VerdictLaws.{accepted_is_safe}
use Rattle.certificate_model.proofs.laws.accepted_bounds_are_safe.Goals as goal

pub returns : goal.returns
returns c = accepted_is_safe
