-- A whole number's text is its decimal, and the decimal is read.
use Rattle.texts.proofs.WholeLaws.{whole_is_read, whole_spells}
use Rattle.texts.proofs.laws.wholes_have_one_text.Goals as goal

pub returns : goal.returns
returns c = λ text z. (whole_spells text z, whole_is_read text z)
