-- Each line is cut off at its line feed.
use Rattle.texts.proofs.LineLaws.{behind_lines-written, lines_of-written}
use Rattle.texts.proofs.laws.written_lines_are_read.Goals as goal

pub returns-clause-lines : goal.returns-clause-lines
returns-clause-lines c = lines_of-written

pub returns-clause-last : goal.returns-clause-last
returns-clause-last c = behind_lines-written
