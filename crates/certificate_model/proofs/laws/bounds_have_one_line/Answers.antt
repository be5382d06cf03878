use Rattle.certificate_model.proofs.TextLaws.{bound_has_one_line}
use Rattle.certificate_model.proofs.laws.bounds_have_one_line.Goals as goal

pub returns : goal.returns
returns c = bound_has_one_line
