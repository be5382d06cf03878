use Rattle.point_decode.proofs.SmallValues.{unbroken_are_small}
use Rattle.point_decode.proofs.judge.are_small.Goals as goal

pub returns : goal.returns
returns c = unbroken_are_small c.args.program.now c.args.point.now c.is_program.ensures c.requires.long c.requires.within
