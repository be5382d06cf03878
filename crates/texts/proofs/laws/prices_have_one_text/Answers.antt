-- A price's text is its decimal, and the decimal is read.
use Rattle.texts.proofs.WholeLaws.{price_is_read, price_spells}
use Rattle.texts.proofs.laws.prices_have_one_text.Goals as goal

pub returns : goal.returns
returns c = λ text z. (price_spells text z, price_is_read text z)
