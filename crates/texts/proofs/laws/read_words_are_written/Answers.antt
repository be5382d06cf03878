-- The parts between spaces, joined by spaces.
use Rattle.texts.proofs.LineLaws.{line_of_words-read, parts_lack}
use Rattle.texts.proofs.laws.read_words_are_written.Goals as goal

pub returns-clause-line : goal.returns-clause-line
returns-clause-line c = line_of_words-read

pub returns-clause-words : goal.returns-clause-words
returns-clause-words c = parts_lack 32
