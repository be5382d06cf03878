-- What is read has this text, and the text is read.
use Rattle.program_text.proofs.SpellLaws.{reads_what_is_spelled, spelled_is_read}
use Rattle.program_text.proofs.laws.is_read_where_it_spells.Goals as goal

pub returns : goal.returns
returns c = λ text values. (reads_what_is_spelled text values, spelled_is_read text values)
