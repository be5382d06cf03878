use Rattle.cell_replay.proofs.Differing.{PartAt}
use Rattle.cell_replay.proofs.changes.first_change.Given as goal

abbrev pub invariant-loop-number : goal.invariant-loop-number
invariant-loop-number l = PartAt l.old.words l.fn.new.words l.number l.net.steps l.first
