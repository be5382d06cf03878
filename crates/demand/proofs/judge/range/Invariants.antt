-- The pieces that are left have the faults of all.
use Rattle.std.proofs.Common.{◌≡◌, drop}
use Rattle.refusals.specs.Faults.{items_from, per_item}
use Rattle.demand.specs.Spread.{range_at}
use Rattle.demand.proofs.judge.range.Given as goal

abbrev pub invariant-loop-j : goal.invariant-loop-j
invariant-loop-j l = per_item l.pieces (range_at l.steps) ≡ items_from l.j (drop l.j l.pieces) (range_at l.steps)
