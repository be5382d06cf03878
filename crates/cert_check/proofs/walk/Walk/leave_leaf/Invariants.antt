use Rattle.std.proofs.Common.{◌≡◌, length}
use Rattle.cert_check.specs.inner.Waiting.{waiting}
use Rattle.cert_check.specs.inner.Walks.{IsWalk, StaysKnown}
use Rattle.cert_check.proofs.walk.Walk.leave_leaf.Given as goal

abbrev pub invariant-loop-frame : goal.invariant-loop-frame
invariant-loop-frame l = record {
  walk : IsWalk l.program l.self;
  boxes : waiting l.initial.self.costed.box l.initial.self.frames ≡ waiting l.self.costed.box l.self.frames;
  known : StaysKnown l.program.plan_cols l.initial.self l.self;
}

abbrev pub decreases-loop-frame : goal.decreases-loop-frame
decreases-loop-frame l = length l.self.frames
