-- Each word is cut off at the space behind it.
use Rattle.texts.proofs.LineLaws.{words_of-written}
use Rattle.texts.proofs.laws.written_words_are_read.Goals as goal

pub returns : goal.returns
returns c = words_of-written
