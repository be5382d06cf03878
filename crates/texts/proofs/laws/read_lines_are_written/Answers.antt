-- The parts between line feeds, joined by line feeds.
use Rattle.texts.proofs.LineLaws.{behind_lines_lacks, lines_lack, text_of_lines-ended, text_of_lines-read}
use Rattle.texts.proofs.laws.read_lines_are_written.Goals as goal

pub returns-clause-whole : goal.returns-clause-whole
returns-clause-whole c = text_of_lines-read

pub returns-clause-lines : goal.returns-clause-lines
returns-clause-lines c = lines_lack

pub returns-clause-last : goal.returns-clause-last
returns-clause-last c = behind_lines_lacks

pub returns-clause-ended : goal.returns-clause-ended
returns-clause-ended c = text_of_lines-ended
