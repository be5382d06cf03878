-- A text is made of remainders by 3, 4 and 11.
use Rattle.generated_nets.proofs.RepeatLaws.{texts_repeat}
use Rattle.generated_nets.proofs.laws.texts_repeat_after_132_numbers.Goals as goal

pub returns : goal.returns
returns c = texts_repeat
