use Rattle.std.proofs.Common.{◌≡◌, fold, get_or, min, take}
use Rattle.plan_point.proofs.encoding.terms.least.Given as goal

abbrev pub invariant-loop-term : goal.invariant-loop-term
invariant-loop-term l = l.least ≡ fold min (get_or l.terms 0 0) (take l.term-index l.terms)
