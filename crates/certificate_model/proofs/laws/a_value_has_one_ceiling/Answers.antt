use Rattle.certificate_model.proofs.SafeLaws.{one_ceiling}
use Rattle.certificate_model.proofs.laws.a_value_has_one_ceiling.Goals as goal

pub returns : goal.returns
returns c = one_ceiling
