-- The text of what the lines name has the most lines in common.
use Rattle.std.proofs.Common.{arith}
use Rattle.texts.specs.Lines.{lines_of}
use Rattle.program_text.specs.PointText.{values_among}
use Rattle.program_text.proofs.PointLaws.{values_among-wholes}
use Rattle.program_text.proofs.SpellLaws.{most_in_common, names_the_next}
use Rattle.program_text.proofs.laws.the_first_line_that_breaks_is_named.Goals as goal

pub returns-clause-most : goal.returns-clause-most
returns-clause-most c = λ text n values refused wholes. let next = names_the_next text n refused in let most = most_in_common (lines_of text) values wholes in omega arith

pub returns-clause-reached : goal.returns-clause-reached
returns-clause-reached c = λ text n refused. (values_among (lines_of text), (values_among-wholes (lines_of text), names_the_next text n refused))
