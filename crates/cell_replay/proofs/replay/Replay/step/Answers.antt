use Rattle.std.proofs.Common.{arith, subst, sym}
use Rattle.std.proofs.lemmas.Grind.{common_steps}
use Rattle.cell_replay.specs.Standing.{IsReplayOf}
use Rattle.cell_replay.proofs.Steps.{stands_one_step_on}
use Rattle.cell_replay.proofs.replay.Replay.step.Goals as goal

pub returns-clause-moves : goal.returns-clause-moves
returns-clause-moves c = grind (arith, common_steps)

pub returns-clause-stands : goal.returns-clause-stands
returns-clause-stands c =
    subst (IsReplayOf c.args.net.now) (sym (returns-clause-moves c))
    (stands_one_step_on c.args.net.now c.args.letters.now c.args.self.now c.requires.valid c.requires.stands c.requires.before_the_end)
