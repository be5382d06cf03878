-- The text of some values is read as them.
use Rattle.program_text.proofs.SpellLaws.{written_is_read}
use Rattle.program_text.proofs.laws.written_values_are_read.Goals as goal

pub returns : goal.returns
returns c = written_is_read
