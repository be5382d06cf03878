-- A number's text is its decimal, and the decimal is read.
use Rattle.texts.proofs.NumberLaws.{natural_is_read, natural_spells}
use Rattle.texts.proofs.laws.naturals_have_one_text.Goals as goal

pub returns : goal.returns
returns c = λ digits n text some few. (natural_spells digits text n few, natural_is_read digits text n some few)
