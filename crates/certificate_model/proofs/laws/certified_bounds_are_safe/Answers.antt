use Rattle.certificate_model.proofs.SafeLaws.{bounds_are_safe}
use Rattle.certificate_model.proofs.laws.certified_bounds_are_safe.Goals as goal

pub returns : goal.returns
returns c = bounds_are_safe
