use Rattle.certificate_model.proofs.VerdictLaws.{one_verdict}
use Rattle.certificate_model.proofs.laws.a_text_has_one_verdict.Goals as goal

pub returns : goal.returns
returns c = one_verdict
