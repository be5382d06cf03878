use Rattle.certificate_model.proofs.VerdictLaws.{accepted_is, is_accepted}
use Rattle.certificate_model.proofs.laws.accepted_texts_show_their_bound.Goals as goal

pub returns : goal.returns
returns c = λ net text bound. (accepted_is net text bound, is_accepted net text bound)
