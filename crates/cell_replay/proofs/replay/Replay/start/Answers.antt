use Rattle.std.proofs.Common.{rules, subst, sym}
use Rattle.cell_replay.specs.Standing.{IsReplayOf}
use Rattle.cell_replay.proofs.Steps.{stands_at_start}
use Rattle.cell_replay.proofs.replay.Replay.start.Goals as goal

pub returns-clause-value : goal.returns-clause-value
returns-clause-value c = search rules

pub returns-clause-stands : goal.returns-clause-stands
returns-clause-stands c = subst (IsReplayOf c.args.net.now) (sym (returns-clause-value c)) (stands_at_start c.args.net.now c.requires)
